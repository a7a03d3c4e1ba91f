use Rattle.std.proofs.Common.{rules, ◌∙◌, ◌%◌, ap}
use Rattle.area_swap.specs.Values.{SeatValue}
use Rattle.area_swap.proofs.Belonging.{knows_plan}
use Rattle.area_swap.proofs.SeatMoves.{lending_keeps}
use Rattle.area_swap.proofs.areas.Areas.lend.Goals as goal

pub split_seat-requires : goal.split_seat-requires
split_seat-requires c = (
  search rules,
  search rules,
  lending_keeps _ _ _ (knows_plan _ _ _ _ _ _ _ c.self.view_is c.seat.view_is c.requires.areas c.self.invariant.0) c.seat.invariant.0.shared
      (ap (λ (s : SeatValue). s.known.share % 2) c.seat.view_is ∙ c.requires.even) c.seat.invariant.0.no_desk,
)
