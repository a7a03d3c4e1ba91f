-- The outcomes of a round, from the draws of the closed areas.
use Rattle.std.proofs.Common.{◌≡◌, ℕ, ◌+◌, ◌<◌, List, ◌++◌, All, length, get_or, subst, ◌∙◌, arith, length-append}
use Rattle.std.specs.List.{Contains}
use Rattle.std.proofs.lemmas.List.{get_or_append_left, get_or-append-add}
use Rattle.ip_codec.specs.declared.items.Item.{Item}
use Rattle.swap_core.specs.Points.{in_force}
use Rattle.area_swap.specs.declared.board.View.{View}
use Rattle.area_swap.specs.Histories.{HistoryValue, AreDrawn}
use Rattle.worker_gate.specs.declared.outcomes.Outcome.{Outcome}
use Rattle.worker_gate.specs.Outcomes.{draw_of}
use Rattle.worker_gate.specs.Rounds.{IsRound}

-- what holds of all draws holds of one among those in the middle
pub in_the_middle : {A : Type 0} (P : A → Type 0) (front middle back : List A) (x : A) → All P ((front ++ middle) ++ back) → Contains middle x → P x
in_the_middle P front middle back x all (k, inside, is) =
    let place : length front + k < length (front ++ middle) = omega (arith, length-append front middle) in
    let whole : length front + k < length ((front ++ middle) ++ back) = omega (arith, length-append (front ++ middle) back) in
    let here : get_or ((front ++ middle) ++ back) (length front + k) x ≡ x =
    get_or_append_left (front ++ middle) back x (length front + k) place ∙ get_or-append-add front middle k x ∙ is in
    subst P here (all (length front + k) x whole)

pub outcomes_in_force : (items : List Item) (start end : ℕ) (before after : View) (all : List Outcome) (later : List (ℕ × ℕ)) (h : HistoryValue)
    → IsRound items start end before after all → AreDrawn h (after.actor.draws ++ later)
    → All (λ (o : Outcome). o.version ≡ in_force h.points o.number) all
outcomes_in_force items start end before after all later h round drawn k d inside =
    let P : ℕ × ℕ → Type 0 = λ x. x.1 ≡ in_force h.points x.0 in
    let Q : List (ℕ × ℕ) → Type 0 = λ l. All P (l ++ later) in
    in_the_middle P before.actor.draws round.news later (draw_of (get_or all k d)) (subst Q round.draws drawn.under) (round.drawn k d inside)
