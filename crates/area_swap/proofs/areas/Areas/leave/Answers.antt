use Rattle.std.proofs.Common.{rules, arith, ◌%◌, inr, subst, sym}
use Rattle.area_swap.specs.Values.{SeatValue, HoldsOne}
use Rattle.area_swap.proofs.Belonging.{knows_plan}
use Rattle.area_swap.proofs.Drawing.{holds_it}
use Rattle.area_swap.proofs.WorkerSteps.{leaves}
use Rattle.area_swap.proofs.areas.Areas.leave.Goals as goal

pub fetch_sub-requires : goal.fetch_sub-requires
fetch_sub-requires c =
    let holds : HoldsOne c.seat.inside.place.me.0 =
    let P : SeatValue → Type 0 = λ s. HoldsOne s.known in subst P (sym c.seat.view_is) c.requires.holding in (
      search rules,
      omega (arith, c.self.invariant.2, c.claims_at-its_claims.ensures),
      leaves _ _ _ _ (knows_plan _ _ _ _ _ _ _ c.self.view_is c.seat.view_is c.requires.areas c.self.invariant.0) (c.seat.inside.held % 2) _ c.claims_at-its_claims.ensures
          c.seat.invariant.0.shared (inr (c.seat.inside.held, holds_it c.seat.inside.place.me.0 _ c.seat.invariant.1 holds)),
    )
