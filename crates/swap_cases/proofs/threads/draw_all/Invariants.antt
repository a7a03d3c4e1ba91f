use Rattle.std.proofs.Common.{◌≡◌}
use Rattle.area_swap.specs.Values.{IsIdle, IsOf}
use Rattle.swap_cases.proofs.threads.draw_all.Given as goal

abbrev pub invariant-turns : goal.invariant-turns
invariant-turns l =
    record {
      areas : IsOf l.areas l.seat;
      idle : IsIdle l.seat.known;
      share : l.seat.known.share ≡ l.initial.seat.known.share;
      right : l.seat.known.right ≡ l.initial.seat.known.right;
    }
