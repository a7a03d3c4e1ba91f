use Rattle.worker_gate.specs.Reloading.{CanReload}
use Rattle.gate_cases.proofs.whole_rounds.put_and_tell.Given as goal

-- the desk may try again
abbrev pub invariant-turns : goal.invariant-turns
invariant-turns l = CanReload l.areas l.desk
