use Rattle.std.proofs.Common.{◌≡◌}
use Rattle.area_swap.specs.Values.{DrawsAlone, IsIdle, IsOf}
use Rattle.gate_cases.proofs.whole_rounds.draw_for_all.Given as goal

abbrev pub invariant-seats : goal.invariant-seats
invariant-seats g l =
    record {
      areas : IsOf l.areas l.drawer;
      idle : IsIdle l.drawer.known;
      alone : DrawsAlone l.drawer.known;
      share : l.drawer.known.share ≡ l.left;
    }

abbrev pub decreases-seats : goal.decreases-seats
decreases-seats g l = l.left
