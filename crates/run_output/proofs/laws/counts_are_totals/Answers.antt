use Rattle.run_output.proofs.JoinLemmas.{totals_are}
use Rattle.run_output.proofs.laws.counts_are_totals.Goals as goal

pub returns : goal.returns
returns c = totals_are
