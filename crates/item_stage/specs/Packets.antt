-- The IPv4 packets of items.
use Rattle.std.specs.Prelude.{ℕ, List, Option, Some, None, Result, Ok, Err, option_and_then, slice_get}
use Rattle.ip_codec.specs.Packet4.{Packet4, ip4_of}
use Rattle.ip_codec.specs.declared.items.Item.{Item}
use Rattle.ip_codec.specs.declared.items.Item.TheVariants as item
use Rattle.ip_codec.specs.declared.packet4.Ip4Bad.{Ip4Bad}
use Rattle.item_stage.specs.Items.{items_in}
use Rattle.item_stage.specs.declared.entries.Entry.{Entry}

abbrev pub if_packet : Result Packet4 Ip4Bad → Option Packet4
if_packet (Ok packet) = Some packet
if_packet (Err refusal) = None

-- the packet that an item's bytes are read as
abbrev pub packet_in : Item → Option Packet4
packet_in (item.Down packet) = if_packet (ip4_of packet)
packet_in (item.Up outer inner) = if_packet (ip4_of inner)
packet_in _ = None

-- that of the item at an index
abbrev pub packet_at : List Entry → ℕ → Option Packet4
packet_at entries index = option_and_then packet_in (slice_get (items_in entries) index)
