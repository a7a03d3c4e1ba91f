use Rattle.area_swap.specs.Values.{IsIdle, IsOf}
use Rattle.worker_gate.specs.Holders.{IsFreeSeat}
use Rattle.worker_gate.specs.Turns.{DrawsNothing}
use Rattle.worker_gate.proofs.drawing.draw_for.Given as goal

abbrev pub invariant-tries : goal.invariant-tries
invariant-tries g l =
    record {
      drawer_areas : IsOf l.areas l.drawer;
      idle : IsIdle l.drawer.known;
      nothing : DrawsNothing l.initial.drawer.known l.drawer.known;
      free : IsFreeSeat l.areas l.holder;
      holder_nothing : DrawsNothing l.initial.holder.known l.holder.known;
    }
