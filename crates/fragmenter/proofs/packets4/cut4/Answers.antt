-- What is cut is the packet that the bytes spell.
use Rattle.std.proofs.Common.{◌<◌, ◌≤◌, length, ap, arith}
use Rattle.ip_codec.specs.Packet4.{packet4, packet_len}
use Rattle.fragmenter.proofs.PieceLemmas.{cut-read4, few4, rooms4}
use Rattle.fragmenter.proofs.packets4.cut4.Goals as goal

pub returns-clause-pieces : goal.returns-clause-pieces
returns-clause-pieces c =
    let view = packet4 c.known_packet.result.view in
    let bounds = c.known_packet.result.bounded in
    let long : c.args.mtu < packet_len view = omega (arith, c.if-total_len-from.false, c.from.ensures, c.total_len.ensures) in
    λ p read. cut-read4 c.args.packet.now view p c.args.mtu c.in_ok-list.list (rooms4 view c.args.mtu c.requires.least_mtu bounds.most_header bounds.whole_words)
    c.known_packet.ensures.read read long c.in_ok-list.ensures

pub returns-clause-few : goal.returns-clause-few
returns-clause-few c =
    let view = packet4 c.known_packet.result.view in
    let bounds = c.known_packet.result.bounded in
    let few : length c.in_ok-list.list ≤ 128 =
    omega (
      arith,
      ap length c.in_ok-list.ensures,
      few4 view c.args.mtu c.requires.least_mtu bounds.most_header bounds.whole_words bounds.least_header bounds.most,
    ) in
    few
