use Rattle.run_output.proofs.JoinLemmas.{rounds_are_joined}
use Rattle.run_output.proofs.laws.rounds_join.Goals as goal

pub returns : goal.returns
returns c = rounds_are_joined
