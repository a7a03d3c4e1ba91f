use Rattle.run_output.proofs.PassLemmas.{passes_give}
use Rattle.run_output.proofs.laws.passes_give_outcomes.Goals as goal

pub returns : goal.returns
returns c = passes_give
