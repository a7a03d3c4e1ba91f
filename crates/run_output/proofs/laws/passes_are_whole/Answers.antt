use Rattle.run_output.proofs.PassLemmas.{pass_is_whole}
use Rattle.run_output.proofs.laws.passes_are_whole.Goals as goal

pub returns : goal.returns
returns c = pass_is_whole
