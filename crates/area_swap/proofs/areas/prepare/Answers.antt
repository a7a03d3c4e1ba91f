use Rattle.std.proofs.Common.{rules, arith, ℕ, ◌≡◌, ◌∙◌, ◌<◌, sym, ap, subst}
use Rattle.area_swap.specs.Places.{all_places, row_place}
use Rattle.area_swap.specs.Rule.{Moment}
use Rattle.area_swap.specs.Views.{first_view, worker_view, desk_view}
use Rattle.area_swap.specs.SeatSteps.{Seated}
use Rattle.area_swap.proofs.Opening.{opens, filled}
use Rattle.area_swap.proofs.SeatMoves.{desk_apart, first_moments}
use Rattle.area_swap.proofs.areas.prepare.Goals as goal

pub of_words-requires : goal.of_words-requires
of_words-requires c =
    opens c.args.plan c.len.ensures.rules c.deref.result.now
    (c.deref.ensures.value
    ∙ filled c.args.plan _ _ _ _ _ _ _ _ _ c.in_ok-words.ensures.items c.in_ok-words.ensures.len (c.row_at.ensures ∙ ap (λ (n : ℕ). row_place n 0) c.width-long.ensures.value)
    c.in_ok-resize.ensures.items c.words.ensures c.in_ok-extend_from_slice.ensures.items (omega arith)
    (c.word_count-count.ensures ∙ ap all_places c.width-long.ensures.value) c.in_ok-resize-2.ensures.items)

pub split_seat-desk_place-requires : goal.split_seat-desk_place-requires
split_seat-desk_place-requires c =
    let h = c.in_ok-table.ensures in
    let some_share : 0 < c.in_ok-table.place.me.0.share =
    let P : Seated → Type 0 = λ m. 0 < m.0.share in subst P (sym h.4) (omega arith) in (
      search rules,
      omega (arith, h.0, c.deref.ensures.len, c.in_ok-resize-2.ensures.len),
      desk_apart _ _ _ (ap (λ (m : Seated). m.0.plan) h.4 ∙ sym h.5) some_share (ap (λ (m : Seated). m.0.has_desk) h.4),
    )

pub returns-clause-rule : goal.returns-clause-rule
returns-clause-rule c =
    let h = c.in_ok-table.ensures in
    let split = c.split_seat-desk_place.ensures in
    let both = first_moments c.args.plan c.len.ensures.rules in
    let worker : c.at.result.known ≡ worker_view (first_view c.args.plan) =
    c.at.ensures.known ∙ ap (λ (m : Seated). m.0) split.2 ∙ ap (λ (m : Seated). worker_view m.0) h.4 in
    let desk : c.at-2.result.known ≡ desk_view (first_view c.args.plan) =
    c.at-2.ensures.known ∙ ap (λ (m : Seated). m.0) split.4 ∙ ap (λ (m : Seated). desk_view m.0) h.4 in
    (subst Moment (sym worker) both.0, subst Moment (sym desk) both.1)
