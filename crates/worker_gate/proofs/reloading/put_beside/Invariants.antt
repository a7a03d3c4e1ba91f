use Rattle.std.proofs.Common.{◌+◌, ◌<◌, ◌≤◌}
use Rattle.area_swap.specs.Values.{IsDesk, IsResting}
use Rattle.worker_gate.specs.Reloading.{CanReload, HasTurns, WaitsFor}
use Rattle.worker_gate.proofs.reloading.put_beside.Given as goal

abbrev pub invariant-turns : goal.invariant-turns
invariant-turns l =
    record {
      desk : CanReload l.areas l.desk;
      is_desk : 0 < l.turn → IsDesk l.desk.known;
      turns : HasTurns l.initial.desk.known l.desk.known;
      looks : l.initial.desk.known.looks + l.turn ≤ l.desk.known.looks;
      rests : 0 < l.turn → IsResting l.desk.known;
      waits : 0 < l.turn → WaitsFor l.desk.known l.desk.known.seen.records;
    }
