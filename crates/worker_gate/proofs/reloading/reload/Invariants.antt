use Rattle.std.proofs.Common.{◌-◌, ◌≤◌, ◌⊎◌, length}
use Rattle.area_swap.specs.Values.{IsOf, IsReady, IsResting}
use Rattle.worker_gate.specs.Reloading.{HasMorePoints}
use Rattle.worker_gate.proofs.reloading.reload.Given as goal

abbrev pub invariant-tables : goal.invariant-tables
invariant-tables l =
    record {
      areas : IsOf l.areas l.desk;
      phase : IsResting l.desk.known ⊎ IsReady l.desk.known;
      points : HasMorePoints l.published l.initial.desk.known l.desk.known;
      looks : l.initial.desk.known.looks ≤ l.desk.known.looks;
      counts : l.initial.desk.known.counts ≤ l.desk.known.counts;
    }

abbrev pub decreases-tables : goal.decreases-tables
decreases-tables l = 256 - length l.desk.known.points
