use Rattle.std.proofs.Common.{◌+◌, ◌<◌, ◌≤◌}
use Rattle.area_swap.specs.Values.{IsDesk, IsOf, IsReady}
use Rattle.worker_gate.specs.Reloading.{HasTurns}
use Rattle.worker_gate.proofs.reloading.comes_free.Given as goal

abbrev pub invariant-turns : goal.invariant-turns
invariant-turns l =
    record {
      areas : IsOf l.areas l.desk;
      ready : IsReady l.desk.known;
      desk : IsDesk l.desk.known;
      turns : HasTurns l.initial.desk.known l.desk.known;
      counts : l.initial.desk.known.counts + l.turn ≤ l.desk.known.counts;
      claimed : 0 < l.turn → 1 ≤ l.desk.known.counted;
    }
