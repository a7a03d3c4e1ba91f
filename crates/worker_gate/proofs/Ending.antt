-- All numbers of a round are found.
use Rattle.std.proofs.Common.{◌≡◌, ℕ, ◌+◌, ◌-◌, ◌<◌, ◌≤◌, ◌⊎◌, inl, inr, List, ◌++◌, All, length, map, get_or, count_by, ap, subst, sym, ◌∙◌, arith}
use Rattle.std.specs.List.{range_with_len, Contains}
use Rattle.std.proofs.lemmas.Bool.{cases_lt}
use Rattle.std.proofs.lemmas.Grind.{same_number_lists}
use Rattle.std.proofs.lemmas.List.{get_or-map, length-map}
use Rattle.std.proofs.lemmas.List.Elements.{All-contains, All-map, Contains-append_right}
use Rattle.std.proofs.lemmas.List.FromFn.{get_or-range_with_len, length-range_with_len}
use Rattle.ip_codec.specs.declared.items.Item.{Item}
use Rattle.swap_core.specs.Plans.{Tables}
use Rattle.swap_core.specs.Sound.{once_below, times}
use Rattle.area_swap.specs.declared.answers.Seen.{Seen}
use Rattle.area_swap.specs.declared.board.View.{View}
use Rattle.area_swap.specs.Rule.{IsDrawnBy}
use Rattle.area_swap.specs.Values.{HasWholeShare, IsIdle}
use Rattle.area_swap.specs.Views.{IsUpTo, reading}
use Rattle.worker_gate.specs.declared.crew.Place.{Place}
use Rattle.worker_gate.specs.declared.crew.Sheet.{Sheet}
use Rattle.worker_gate.specs.declared.outcomes.Outcome.{Outcome}
use Rattle.worker_gate.specs.Crews.{IsPlaced, outcome_at, outcomes_at}
use Rattle.worker_gate.specs.Outcomes.{draw_of, IsJudged}
use Rattle.worker_gate.specs.Gathering.{Gathered, IsFound}
use Rattle.worker_gate.specs.Rounds.{IsRound}
use Rattle.worker_gate.specs.Turns.{DrawsNothing}
use Rattle.worker_gate.proofs.Counts.{drawn_as, count_on, count_none, once_no, once_yes}
use Rattle.worker_gate.proofs.Served.{upto_on}

abbrev no_place : Place
no_place = record { sheet = 0; index = 0 }

module _ (p : Tables) (items : List Item) (start end records : ℕ) (v w : View) (sheets : List Sheet) (places : List Place) (h : Gathered p items start end v w sheets places)
    (size : start + length places ≡ end) (before : (n : ℕ) → times n v.actor ≡ once_below n start) (after : (n : ℕ) → times n w.actor ≡ once_below n records)
    (reached : end ≤ records) where
  -- how often a number was drawn in the round
  times_in_round : (n : ℕ) → once_below n records ≡ once_below n start + count_by (drawn_as n) h.news
  times_in_round n =
      let sum : count_by (drawn_as n) (v.actor.draws ++ h.news) ≡ count_by (drawn_as n) v.actor.draws + count_by (drawn_as n) h.news =
      count_on n v.actor.draws h.news in
      sym (after n) ∙ ap (λ (l : List (ℕ × ℕ)). count_by (drawn_as n) l) h.draws ∙ sum
      ∙ ap (λ (k : ℕ). k + count_by (drawn_as n) h.news) (before n)

  pub found : (k : ℕ) (d : Place) → k < length places → IsFound p items start h.news sheets (start + k) (get_or places k d)
  found k d less = by_case (h.found k d less) where
    by_case : (count_by (drawn_as (start + k)) h.news ≡ 0) ⊎ IsFound p items start h.news sheets (start + k) (get_or places k d)
        → IsFound p items start h.news sheets (start + k) (get_or places k d)
    by_case (inr f) = f
    by_case (inl none) =
        let one : once_below (start + k) records ≡ 1 = once_yes (start + k) records (omega (arith, less, size, reached)) in
        let zero_before : once_below (start + k) start ≡ 0 = once_no (start + k) start (omega arith) in
        absurd (omega (arith, times_in_round (start + k), one, zero_before, none))

  pub all_drawn : records ≡ end
  all_drawn = by_case (cases_lt end records) where
    by_case : (end < records) ⊎ (records ≤ end) → records ≡ end
    by_case (inr most) = omega (arith, most, reached)
    by_case (inl more) =
        let one : once_below end records ≡ 1 = once_yes end records more in
        let zero_before : once_below end start ≡ 0 = once_no end start (omega (arith, size)) in
        let none : count_by (drawn_as end) h.news ≡ 0 = count_none end h.news (λ k d less is. omega (arith, (h.inside k d less).1, is)) in
        absurd (omega (arith, times_in_round end, one, zero_before, none))

  pub all_placed : All (IsPlaced sheets) places
  all_placed k d less = (found k d less).placed

  pub all_judged : All (IsJudged p items start) (outcomes_at sheets places)
  all_judged = All-map (IsJudged p items start) (outcome_at sheets) places (λ k d less. (found k d less).judged)

  pub all_of_draws : All (λ (o : Outcome). Contains h.news (draw_of o)) (outcomes_at sheets places)
  all_of_draws = All-map (λ (o : Outcome). Contains h.news (draw_of o)) (outcome_at sheets) places (λ k d less. (found k d less).drawn)

  abbrev number_of : Outcome → ℕ
  number_of o = o.number

  pub all_numbers : map (λ (o : Outcome). o.number) (outcomes_at sheets places) ≡ range_with_len start (end - start)
  all_numbers = same_number_lists (map number_of (outcomes_at sheets places)) (range_with_len start (end - start)) long each where
    many : length (map number_of (outcomes_at sheets places)) ≡ length places
    many = length-map (outcomes_at sheets places) number_of ∙ length-map places (outcome_at sheets)

    long : length (map number_of (outcomes_at sheets places)) ≡ length (range_with_len start (end - start))
    long = omega (arith, many, size, length-range_with_len start (end - start))

    each : (k : ℕ) → k < length (map number_of (outcomes_at sheets places))
        → get_or (map number_of (outcomes_at sheets places)) k 0 ≡ get_or (range_with_len start (end - start)) k 0
    each k less =
        let inside : k < length places = omega (arith, less, many) in
        let in_outcomes : k < length (outcomes_at sheets places) = omega (arith, inside, length-map places (outcome_at sheets)) in
        let in_range : k < end - start = omega (arith, inside, size) in
        let o : Outcome = outcome_at sheets (get_or places k no_place) in
        get_or-map number_of (outcomes_at sheets places) k o 0 in_outcomes
        ∙ ap number_of (get_or-map (outcome_at sheets) places k no_place o inside)
        ∙ (found k no_place inside).number_is
        ∙ sym (get_or-range_with_len start (end - start) k 0 in_range)

-- A round from its beginning to its end.

-- the seat drew nothing and read no word; its share may have changed
pub record KeepsDraws (v w : View) : Type 0 where
  pub draws : w.actor.draws ≡ v.actor.draws
  pub later : IsUpTo v.seen w.seen
  pub same_reads : w.reads ≡ v.reads

pub begun : (u v w x : View) (now : Seen) → v ≡ reading u now → IsUpTo u.seen now → w ≡ record v { share = w.share; right = w.right } → DrawsNothing w x → KeepsDraws u x
begun u v w x now read later split nothing =
    let seen : w.seen ≡ now = ap (λ (y : View). y.seen) split ∙ ap (λ (y : View). y.seen) read in
    let P : Seen → Type 0 = λ s. IsUpTo u.seen s in
    record {
      draws = nothing.draws ∙ ap (λ (y : View). y.actor.draws) split ∙ ap (λ (y : View). y.actor.draws) read;
      later = upto_on u.seen w.seen x.seen (subst P (sym seen) later) nothing.later;
      same_reads = nothing.same_reads ∙ ap (λ (y : View). y.reads) split ∙ ap (λ (y : View). y.reads) read;
    }

pub read_again : (u v w : View) (now : Seen) → v ≡ reading u now → IsUpTo u.seen now → DrawsNothing v w → DrawsNothing u w
read_again u v w now read later nothing =
    let seen : v.seen ≡ now = ap (λ (y : View). y.seen) read in
    let P : Seen → Type 0 = λ s. IsUpTo u.seen s in
    record {
      draws = nothing.draws ∙ ap (λ (y : View). y.actor.draws) read;
      later = upto_on u.seen v.seen w.seen (subst P (sym seen) later) nothing.later;
      same_reads = nothing.same_reads ∙ ap (λ (y : View). y.reads) read;
      same_share = nothing.same_share ∙ ap (λ (y : View). y.share) read;
      same_right = nothing.same_right ∙ ap (λ (y : View). y.right) read;
    }

module _ (p : Tables) (items : List Item) (start end records : ℕ) (u v w x : View) (sheets : List Sheet) (places : List Place) (first : KeepsDraws u v)
    (h : Gathered p items start end v w sheets places) (last : DrawsNothing w x) (size : start + length places ≡ end)
    (before : (n : ℕ) → times n u.actor ≡ once_below n start) (after : (n : ℕ) → times n w.actor ≡ once_below n records) (reached : end ≤ records) where
  before_too : (n : ℕ) → times n v.actor ≡ once_below n start
  before_too n = ap (λ (l : List (ℕ × ℕ)). count_by (drawn_as n) l) first.draws ∙ before n

  pub round_is : length w.actor.draws ≡ records → u.plan ≡ p → x.plan ≡ p → HasWholeShare x → IsIdle x
      → IsRound items start end u x (outcomes_at sheets places)
  round_is many plan_before plan_after whole idle =
      let P : Tables → Type 0 = λ q. All (IsJudged q items start) (outcomes_at sheets places) in
      record {
        numbers = all_numbers p items start end records v w sheets places h size before_too after reached;
        news = h.news;
        draws = last.draws ∙ h.draws ∙ ap (λ (l : List (ℕ × ℕ)). l ++ h.news) first.draws;
        drawn = all_of_draws p items start end records v w sheets places h size before_too after reached;
        judged = subst P (sym plan_before) (all_judged p items start end records v w sheets places h size before_too after reached);
        many =
            ap (λ (l : List (ℕ × ℕ)). length l) last.draws ∙ many
            ∙ all_drawn p items start end records v w sheets places h size before_too after reached;
        same_plan = plan_after ∙ sym plan_before;
        whole = whole;
        idle = idle;
        later = upto_on u.seen w.seen x.seen (upto_on u.seen v.seen w.seen first.later h.later) last.later;
        reads = omega (arith, h.reads, first.same_reads, last.same_reads);
      }

  pub round_placed : All (IsPlaced sheets) places
  round_placed = all_placed p items start end records v w sheets places h size before_too after reached

-- Each outcome is of a draw, and so has no version above the one that is read after all draws.
pub versions_known : (items : List Item) (start end points : ℕ) (u x : View) (all : List Outcome) → IsRound items start end u x all
    → All (IsDrawnBy x.seen) x.actor.draws → x.seen.version ≡ points → All (λ (o : Outcome). o.version ≤ points) all
versions_known items start end points u x all round drawn version k d less =
    let o : Outcome = get_or all k d in
    let P : List (ℕ × ℕ) → Type 0 = λ l. All (IsDrawnBy x.seen) l in
    let own : IsDrawnBy x.seen (draw_of o) =
    All-contains (IsDrawnBy x.seen) (u.actor.draws ++ round.news) (draw_of o) (subst P round.draws drawn)
    (Contains-append_right u.actor.draws round.news (draw_of o) (round.drawn k d less)) in
    let most : o.version ≤ x.seen.version = own.1 in omega (arith, most, version)
