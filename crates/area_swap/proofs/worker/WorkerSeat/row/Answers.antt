use Rattle.std.proofs.Common.{◌∙◌, ℕ, ◌%◌, ap, subst, sym}
use Rattle.swap_core.specs.Plans.{width}
use Rattle.area_swap.specs.Places.{row_place}
use Rattle.area_swap.specs.Values.{SeatValue, HoldsOne}
use Rattle.area_swap.specs.Views.{held_row}
use Rattle.area_swap.proofs.Drawing.{held_is}
use Rattle.area_swap.proofs.worker.WorkerSeat.row.Goals as goal

pub returns : goal.returns
returns c =
    let holds : HoldsOne c.self.inside.place.me.0 =
    let P : SeatValue → Type 0 = λ s. HoldsOne s.known in subst P (sym c.self.view_is) c.requires in
    c.self.invariant.3
    ∙ ap (λ (n : ℕ). row_place (width c.self.inside.place.me.0.plan) (n % 2)) (sym (held_is c.self.inside.place.me.0 _ c.self.invariant.1 holds))
    ∙ ap (λ (s : SeatValue). held_row s.known) c.self.view_is
