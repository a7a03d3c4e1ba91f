use Rattle.area_swap.specs.Values.{IsIdle, IsOf}
use Rattle.worker_gate.specs.Turns.{DrawsNothing}
use Rattle.worker_gate.proofs.serving.comes_next.Given as goal

abbrev pub invariant-looks : goal.invariant-looks
invariant-looks l =
    record {
      areas : IsOf l.areas l.seat;
      idle : IsIdle l.seat.known;
      nothing : DrawsNothing l.initial.seat.known l.seat.known;
    }
