use Rattle.std.proofs.Common.{rules, arith, ◌≡◌, ℕ, ◌<◌, ◌∙◌, ◌%◌, ◌≤◌, length, ap, subst, sym}
use Rattle.swap_core.specs.Plans.{width}
use Rattle.swap_core.proofs.Laws.{table_fits}
use Rattle.area_swap.specs.Places.{row_place}
use Rattle.area_swap.specs.Values.{SeatValue, HoldsOne}
use Rattle.area_swap.specs.Views.{held_row, held_table, held_version}
use Rattle.area_swap.proofs.Belonging.{knows_plan}
use Rattle.area_swap.proofs.Drawing.{holds_it}
use Rattle.area_swap.proofs.Apart.{row_fits}
use Rattle.area_swap.proofs.WorkerSteps.{reads_word}
use Rattle.area_swap.proofs.areas.Areas.word_from.Goals as goal

pub load-requires : goal.load-requires
load-requires c =
    let plan = knows_plan _ _ _ _ _ _ _ c.self.view_is c.seat.view_is c.requires.areas c.self.invariant.0 in
    let holds : HoldsOne c.seat.inside.place.me.0 =
    let P : SeatValue → Type 0 = λ s. HoldsOne s.known in subst P (sym c.seat.view_is) c.requires.holding in
    let inside : c.args.j < length (held_table c.seat.inside.place.me.0) =
    let P : SeatValue → Type 0 = λ s. c.args.j < length (held_table s.known) in subst P (sym c.seat.view_is) c.requires.inside in
    let same : c.seat.inside.place.me.0.plan ≡ c.self.inside.plan = plan ∙ c.self.invariant.0 in
    let wide : width c.seat.inside.place.me.0.plan ≡ c.self.inside.long = ap width same ∙ sym c.self.invariant.1 in
    let fits : length (held_table c.seat.inside.place.me.0) ≤ width c.seat.inside.place.me.0.plan =
    table_fits c.seat.inside.place.me.0.plan (held_version c.seat.inside.place.me.0) in
    let begins : c.args.row ≡ row_place c.self.inside.long (held_version c.seat.inside.place.me.0 % 2) =
    c.requires.row ∙ ap (λ (s : SeatValue). held_row s.known) (sym c.seat.view_is)
    ∙ ap (λ (long : ℕ). row_place long (held_version c.seat.inside.place.me.0 % 2)) wide in
    let in_two : held_version c.seat.inside.place.me.0 % 2 < 2 = omega arith in
    let in_row : c.args.j < c.self.inside.long = omega arith in (
      search rules,
      omega (arith, row_fits (held_version c.seat.inside.place.me.0 % 2) c.self.inside.long c.args.j in_two in_row, c.self.invariant.1, c.self.invariant.2, begins),
      reads_word _ _ _ _ plan _ _ _ c.seat.invariant.0.shared (holds_it c.seat.inside.place.me.0 _ c.seat.invariant.1 holds),
    )
