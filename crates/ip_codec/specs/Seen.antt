-- Which item a view shows.
use Rattle.ip_codec.specs.Packet4.{packet4, whole4}
use Rattle.ip_codec.specs.declared.items.Item.{Item}
use Rattle.ip_codec.specs.declared.items.Item.TheVariants as item
use Rattle.ip_codec.specs.declared.items.ItemView.{ItemView}
use Rattle.ip_codec.specs.declared.items.ItemView.TheVariants as view

abbrev pub seen : ItemView → Item
seen (view.Down packet) = item.Down (whole4 (packet4 packet.view))
seen (view.Up outer inner) = item.Up outer (whole4 (packet4 inner.view))
seen (view.UpUnread outer inner) = item.Up outer inner.bytes.now
seen (view.OtherIp6 dst) = item.OtherIp6 dst
seen (view.Icmp6 src dst message) = item.Icmp6 src dst message.now
seen view.Held = item.Held
seen (view.Bad why) = item.Bad why
