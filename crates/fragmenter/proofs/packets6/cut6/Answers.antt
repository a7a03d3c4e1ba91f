-- What is cut is the packet that the bytes spell.
use Rattle.std.proofs.Common.{◌<◌, ◌≤◌, length, ap, arith}
use Rattle.ip_codec.specs.Packet6.{packet6}
use Rattle.fragmenter.proofs.PieceLemmas.{cut-read6, few6}
use Rattle.fragmenter.proofs.packets6.cut6.Goals as goal

pub returns-clause-pieces : goal.returns-clause-pieces
returns-clause-pieces c =
    let long : c.args.mtu < length c.args.packet.now = omega (arith, c.if-packet-from.false, c.from.ensures) in
    λ p read. cut-read6 c.args.packet.now (packet6 c.in-Ok.view) p c.args.mtu c.args.id c.in_ok-list.list c.requires.least_mtu c.in-Ok.ensures.reads read long
    c.in_ok-list.ensures

pub returns-clause-few : goal.returns-clause-few
returns-clause-few c =
    let few : length c.in_ok-list.list ≤ 54 =
    omega (arith, ap length c.in_ok-list.ensures, few6 (packet6 c.in-Ok.view) c.args.mtu c.args.id c.requires.least_mtu c.in-Ok.ensures.bounded.most) in
    few
