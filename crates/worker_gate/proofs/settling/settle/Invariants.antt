use Rattle.std.proofs.Common.{◌⊎◌}
use Rattle.area_swap.specs.Values.{IsIdle, IsOf, IsReady, IsResting}
use Rattle.worker_gate.specs.Reloading.{HasMorePoints}
use Rattle.worker_gate.specs.Turns.{DrawsNothing}
use Rattle.worker_gate.proofs.settling.settle.Given as goal

abbrev pub invariant-tries : goal.invariant-tries
invariant-tries g l =
    record {
      seat_areas : IsOf l.areas l.seat;
      desk_areas : IsOf l.areas l.desk;
      idle : IsIdle l.seat.known;
      phase : IsResting l.desk.known ⊎ IsReady l.desk.known;
      nothing : DrawsNothing l.initial.seat.known l.seat.known;
      points : HasMorePoints l.published l.initial.desk.known l.desk.known;
    }
