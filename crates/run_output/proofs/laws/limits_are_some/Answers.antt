use Rattle.run_output.proofs.SomeLemmas.{limits_are_there}
use Rattle.run_output.proofs.laws.limits_are_some.Goals as goal

pub returns : goal.returns
returns c = limits_are_there
