-- The fragments that records hold: which datagram each belongs to, and which part of it.
use Rattle.std.specs.Prelude.{ℕ, ◌%◌, ◌==◌, Bool, if◌then◌else◌, List, [], ◌∷◌, length}
use Rattle.std.specs.declared.cmp.Ordering.{Ordering}
use Rattle.ip_codec.specs.Packet4 as four
use Rattle.ip_codec.specs.declared.items.Outer.{Outer}
use Rattle.item_stage.specs.contracts.keys.DownKeyOrd.TheImpl as down_order
use Rattle.item_stage.specs.contracts.keys.InnerKeyOrd.TheImpl as inner_order
use Rattle.item_stage.specs.contracts.keys.OuterKeyOrd.TheImpl as outer_order
use Rattle.item_stage.specs.declared.keys.DownKey.{DownKey}
use Rattle.item_stage.specs.declared.keys.InnerKey.{InnerKey}
use Rattle.item_stage.specs.declared.keys.OuterKey.{OuterKey}
use Rattle.reassembly_lane.specs.declared.parts.Part.{Part}

-- a datagram from the IPv4 network, by its addresses, protocol and identification (RFC 791, section 3.2)
abbrev pub down_key : four.Packet4 → DownKey
down_key packet = record { src = record { 0 = packet.src }; dst = record { 0 = packet.dst }; protocol = packet.protocol; id = packet.id }

-- a datagram in the tunnel, by the tunnel packet's addresses and its own fields
abbrev pub inner_key : Outer → four.Packet4 → InnerKey
inner_key outer packet = record {
  tunnel_src = outer.src;
  tunnel_dst = outer.dst;
  src = record { 0 = packet.src };
  dst = record { 0 = packet.dst };
  protocol = packet.protocol;
  id = packet.id;
}

-- a tunnel packet, by its addresses and the identification of its Fragment header (RFC 8200, section 4.5)
abbrev pub outer_key : Outer → ℕ → OuterKey
outer_key outer id = record { src = outer.src; dst = outer.dst; id = id }

-- the orders of keys
abbrev pub by_down_key : DownKey → DownKey → Ordering
by_down_key = (down_order.ghosts).cmp

abbrev pub by_inner_key : InnerKey → InnerKey → Ordering
by_inner_key = (inner_order.ghosts).cmp

abbrev pub by_outer_key : OuterKey → OuterKey → Ordering
by_outer_key = (outer_order.ghosts).cmp

-- what a datagram takes from its first fragment alone
abbrev pub first_head : ℕ → List ℕ → List ℕ
first_head offset head = if offset == 0 then head else []

-- an IPv4 fragment as a part of its datagram: the first one's header is the datagram's, and its length counts towards the
-- greatest one (RFC 791, section 3.2)
abbrev pub part_of4 : four.Packet4 → Part
part_of4 packet = record {
  offset = packet.offset;
  more = packet.mf;
  extra = length packet.header;
  head = first_head packet.offset packet.header;
  body = packet.payload;
}

-- What stands behind a Fragment header, as a part of what was cut: the first one's next header is that of the whole (RFC 8200,
-- section 4.5). The fixed header counts for nothing towards the greatest length.
abbrev pub part_of6 : ℕ → Bool → ℕ → List ℕ → Part
part_of6 offset more next body = record { offset = offset; more = more; extra = 0; head = first_head offset (next ∷ []); body = body }

-- how many lanes a row has (ours), and the lane of an identification
abbrev pub lane_count : ℕ
lane_count = 16

abbrev pub lane_of : ℕ → ℕ
lane_of id = id % 16
