use Rattle.std.proofs.Common.{◌∙◌, ap, sym}
use Rattle.ip_codec.specs.Packet4 as four
use Rattle.ip_codec.specs.Packet6 as six
use Rattle.ip_codec.specs.declared.items.Item.TheVariants as item
use Rattle.ip_codec.specs.declared.items.Outer.{Outer}
use Rattle.item_stage.proofs.WholeLemmas.{carries_parts, carries_reads, tunnel_plain_item}
use Rattle.item_stage.proofs.reading.plain_in_tunnel.Goals as goal

pub known_ip6-packet-requires : goal.known_ip6-packet-requires
known_ip6-packet-requires c = carries_reads (six.ip6_of c.args.bytes.now) c.requires

pub plain_packet-requires : goal.plain_packet-requires
plain_packet-requires c =
    let outer = six.packet6 c.known_ip6-packet.result in
    (carries_parts outer (six.ip6_of c.args.bytes.now) c.known_ip6-packet.ensures c.requires).1

pub returns : goal.returns
returns c =
    let packet = four.packet4 c.plain_packet.result.view in
    ap (λ (o : Outer). item.Up o (four.whole4 packet)) c.outer_fields.ensures
    ∙ sym (tunnel_plain_item (six.packet6 c.known_ip6-packet.result) packet (six.ip6_of c.args.bytes.now) c.known_ip6-packet.ensures c.requires c.plain_packet.ensures.read)
