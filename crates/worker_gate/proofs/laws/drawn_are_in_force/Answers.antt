use Rattle.worker_gate.proofs.LawLemmas.{drawn_in_force}
use Rattle.worker_gate.proofs.laws.drawn_are_in_force.Goals as goal

pub returns : goal.returns
returns c = drawn_in_force
