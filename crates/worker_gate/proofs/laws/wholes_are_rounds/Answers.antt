use Rattle.worker_gate.proofs.LawLemmas.{whole_is_round}
use Rattle.worker_gate.proofs.laws.wholes_are_rounds.Goals as goal

pub returns : goal.returns
returns c = whole_is_round
