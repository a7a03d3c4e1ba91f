use Rattle.std.proofs.Common.{◌-◌, length}
use Rattle.worker_gate.specs.Reloading.{CanReload, KeepsPoints}
use Rattle.run_turns.proofs.dealing.publish.Given as goal

abbrev pub invariant-tables : goal.invariant-tables
invariant-tables l = record { desk : CanReload l.areas l.desk; points : KeepsPoints l.initial.desk.known l.desk.known }

abbrev pub decreases-tables : goal.decreases-tables
decreases-tables l = 256 - length l.desk.known.points
