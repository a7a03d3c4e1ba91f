use Rattle.std.proofs.Common.{◌≡◌, ◌∙◌, ap, sym, is_some, true}
use Rattle.ip_codec.specs.Packet4 as four
use Rattle.ip_codec.specs.Packet6 as six
use Rattle.ip_codec.specs.declared.items.Item.{Item}
use Rattle.item_stage.specs.Alone.{in_tunnel, outer_of, item_inside}
use Rattle.item_stage.specs.Packets.{packet_in}
use Rattle.item_stage.proofs.WholeLemmas.{tunnel_at_once, tunnel_known}
use Rattle.item_stage.proofs.packets.bytes_in_tunnel.Goals as goal

pub returns-then-packet-eq-IPV4_IN_IPV6 : goal.returns-then-packet-eq-IPV4_IN_IPV6
returns-then-packet-eq-IPV4_IN_IPV6 c =
    let outer = six.packet6 c.known_ip6-packet.result in
    let at_once = tunnel_at_once outer (six.ip6_of c.args.bytes.now) c.known_ip6-packet.ensures c.if-packet-eq-IPV4_IN_IPV6.true in
    let known : is_some (packet_in (item_inside (in_tunnel (outer_of outer) outer.body (four.ip4_of outer.body)))) ≡ true =
    sym (ap (λ (i : Item). is_some (packet_in i)) at_once) ∙ c.requires in
    ap (λ (i : Item). packet_in i) at_once ∙ tunnel_known (outer_of outer) outer.body known
