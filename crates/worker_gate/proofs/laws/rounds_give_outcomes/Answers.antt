use Rattle.worker_gate.proofs.LawLemmas.{rounds_give}
use Rattle.worker_gate.proofs.laws.rounds_give_outcomes.Goals as goal

pub returns : goal.returns
returns c = rounds_give
