use Rattle.worker_gate.proofs.InForce.{outcomes_in_force}
use Rattle.worker_gate.proofs.laws.outcomes_are_in_force.Goals as goal

pub returns : goal.returns
returns c = outcomes_in_force
