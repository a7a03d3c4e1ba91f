-- There are few fragments.
use Rattle.std.proofs.Common.{arith}
use Rattle.std.proofs.lemmas.List.{length-append}
use Rattle.ip_codec.specs.Packet6.{packet6}
use Rattle.fragmenter.specs.Pieces6.{with_rest}
use Rattle.fragmenter.proofs.PieceLemmas.{few6}
use Rattle.fragmenter.proofs.packets6.Cuts6.of.Goals as goal

pub returns-clause-few : goal.returns-clause-few
returns-clause-few c =
    few6 (with_rest (packet6 c.args.packet.now) c.args.rest.now) c.args.mtu c.args.id c.requires.least_mtu
    (omega (arith, c.requires.most, length-append c.args.packet.now.body.now c.args.rest.now))
