-- What is written is read back.
use Rattle.ip_codec.specs.Packet4.{packet4}
use Rattle.softwire_encap.proofs.PassingLemmas.{ip4_of-lowered, like_old}
use Rattle.softwire_encap.proofs.passing.push_lowered.Goals as goal

pub returns-clause-read : goal.returns-clause-read
returns-clause-read c = ip4_of-lowered (packet4 c.args.p.now) c.requires.whole

pub returns-clause-size : goal.returns-clause-size
returns-clause-size c = (like_old (packet4 c.args.p.now) c.requires.whole).len
