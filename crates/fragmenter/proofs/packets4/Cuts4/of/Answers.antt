-- There are few pieces.
use Rattle.ip_codec.specs.Packet4.{packet4}
use Rattle.fragmenter.proofs.PieceLemmas.{few4}
use Rattle.fragmenter.proofs.packets4.Cuts4.of.Goals as goal

pub returns-clause-few : goal.returns-clause-few
returns-clause-few c =
    let bounds = c.requires.bounded in
    few4 (packet4 c.args.packet.now) c.args.mtu c.requires.least_mtu bounds.most_header bounds.whole_words bounds.least_header bounds.most
