-- The test on the sum is the test on what it folds to.
use Rattle.ip_codec.proofs.PlainLemmas.{full_some}
use Rattle.ip_codec.proofs.packet4.fills.Goals as goal

pub returns : goal.returns
returns c = full_some c.args.sum c.requires
