-- What follows of the outcomes of any form of a round, and of a round that one seat drew and another one judged.
use Rattle.std.proofs.Common.{◌≡◌, ℕ, ◌+◌, ◌-◌, ◌≤◌, List, ◌++◌, All, length, get_or, ap, subst, sym, ◌∙◌, arith, length-append}
use Rattle.std.specs.List.{range_with_len}
use Rattle.std.proofs.lemmas.List.FromFn.{length-map-range_with_len}
use Rattle.ip_codec.specs.declared.items.Item.{Item}
use Rattle.swap_core.specs.Plans.{Tables}
use Rattle.swap_core.specs.Points.{in_force}
use Rattle.swap_core.specs.States.{consecutive}
use Rattle.area_swap.specs.declared.board.View.{View}
use Rattle.area_swap.specs.Histories.{HistoryValue, AreDrawn}
use Rattle.area_swap.specs.Values.{IsIdle}
use Rattle.area_swap.specs.Views.{IsUpTo}
use Rattle.worker_gate.specs.declared.outcomes.Outcome.{Outcome}
use Rattle.worker_gate.specs.Drawing.{HasDrawnRound}
use Rattle.worker_gate.specs.Outcomes.{draw_of, IsJudged}
use Rattle.worker_gate.specs.Rounds.{IsRound}
use Rattle.worker_gate.specs.WholeRounds.{AreOutcomes, HasJudgedWhole}
use Rattle.worker_gate.proofs.InForce.{in_the_middle}
use Rattle.worker_gate.proofs.Served.{upto_on}

pub rounds_give : (items : List Item) (start end : ℕ) (before after : View) (all : List Outcome) (h : IsRound items start end before after all)
    → AreOutcomes before.plan items start end h.news all
rounds_give items start end before after all h = record { numbers = h.numbers; drawn = h.drawn; judged = h.judged }

pub drawn_in_force : (p : Tables) (items : List Item) (start end : ℕ) (before news later : List (ℕ × ℕ)) (all : List Outcome) (h : HistoryValue)
    → AreOutcomes p items start end news all → AreDrawn h ((before ++ news) ++ later)
    → All (λ (o : Outcome). o.version ≡ in_force h.points o.number) all
drawn_in_force p items start end before news later all h outcomes drawn k d inside =
    let P : ℕ × ℕ → Type 0 = λ x. x.1 ≡ in_force h.points x.0 in
    in_the_middle P before news later (draw_of (get_or all k d)) drawn.under (outcomes.drawn k d inside)

pub whole_is_round : (p : Tables) (items : List Item) (start end version : ℕ) (u v held free x : View) (all : List Outcome)
    → HasDrawnRound p start end (length items) version u v → HasJudgedWhole p items start version held free all
    → length u.actor.draws ≡ start → start + length items ≡ end → u.plan ≡ p → x.plan ≡ p
    → x.actor.draws ≡ v.actor.draws → x.share ≡ 65536 → IsIdle x → IsUpTo v.seen x.seen → v.reads + free.reads ≤ x.reads
    → IsRound items start end u x all
whole_is_round p items start end version u v held free x all row judged began counted plan_before plan_after draws whole idle later reads =
    let span : start + length items - start ≡ end - start = ap (λ (n : ℕ). n - start) counted in
    let many : length (consecutive start (length items) version) ≡ length items =
    length-map-range_with_len (λ (number : ℕ). (number, version)) start (length items) in
    let all_draws : x.actor.draws ≡ u.actor.draws ++ consecutive start (length items) version = draws ∙ row.draws in
    let long : length x.actor.draws ≡ length u.actor.draws + length (consecutive start (length items) version) =
    ap (λ (l : List (ℕ × ℕ)). length l) all_draws ∙ length-append u.actor.draws (consecutive start (length items) version) in
    let P : Tables → Type 0 = λ q. All (IsJudged q items start) all in
    record {
      numbers = judged.outcomes.numbers ∙ ap (λ (n : ℕ). range_with_len start n) span;
      news = consecutive start (length items) version;
      draws = all_draws;
      drawn = judged.outcomes.drawn;
      judged = subst P (sym plan_before) judged.outcomes.judged;
      many = omega (arith, long, many, began, counted);
      same_plan = plan_after ∙ sym plan_before;
      whole = whole;
      idle = idle;
      later = upto_on u.seen v.seen x.seen row.later later;
      reads = omega (arith, row.same_reads, judged.reads, reads);
    }
