use Rattle.std.proofs.Common.{◌≡◌, ◌≤◌, length}
use Rattle.area_swap.specs.Values.{HoldsOne, IsOf}
use Rattle.area_swap.specs.Views.{held_table}
use Rattle.swap_cases.proofs.threads.draw_on.Given as goal

abbrev pub invariant-turns : goal.invariant-turns
invariant-turns l =
    record {
      areas : IsOf l.areas l.seat;
      holding : HoldsOne l.seat.known;
      long : l.long ≤ length (held_table l.seat.known);
      share : l.seat.known.share ≡ l.initial.seat.known.share;
      right : l.seat.known.right ≡ l.initial.seat.known.right;
    }
