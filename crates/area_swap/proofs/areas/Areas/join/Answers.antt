use Rattle.std.proofs.Common.{rules, ◌∙◌, ap}
use Rattle.area_swap.specs.Values.{SeatValue}
use Rattle.area_swap.proofs.Belonging.{knows_plan}
use Rattle.area_swap.proofs.SeatMoves.{together_keeps}
use Rattle.area_swap.proofs.areas.Areas.join.Goals as goal

pub join_seat-requires : goal.join_seat-requires
join_seat-requires c = (
  search rules,
  search rules,
  search rules,
  search rules,
  together_keeps _ _ _ _ _ (knows_plan _ _ _ _ _ _ _ c.self.view_is c.seat.view_is c.requires.areas c.self.invariant.0) c.seat.invariant.0.shared
      (ap (λ (s : SeatValue). s.known.actor.state) c.seat.view_is ∙ c.requires.idle)
      (ap (λ (s : SeatValue). s.known.actor.state) c.other.view_is ∙ c.requires.other_idle) c.seat.invariant.0.no_desk c.other.invariant.0.no_desk,
)
