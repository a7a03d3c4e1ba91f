use Rattle.std.proofs.Common.{◌+◌, ◌<◌, ◌≤◌, ◌⊎◌}
use Rattle.area_swap.specs.Values.{IsDesk, IsOf, IsReady, IsResting}
use Rattle.worker_gate.specs.Reloading.{HasTurns, WaitsFor}
use Rattle.worker_gate.proofs.reloading.put_next.Given as goal

abbrev pub invariant-turns : goal.invariant-turns
invariant-turns l =
    record {
      areas : IsOf l.areas l.desk;
      phase : IsResting l.desk.known ⊎ IsReady l.desk.known;
      desk : 0 < l.counter → IsDesk l.desk.known;
      turns : HasTurns l.initial.desk.known l.desk.known;
      looks : l.initial.desk.known.looks + l.counter ≤ l.desk.known.looks;
      rests : 0 < l.counter → IsResting l.desk.known;
      waits : 0 < l.counter → WaitsFor l.desk.known l.desk.known.seen.records;
    }
