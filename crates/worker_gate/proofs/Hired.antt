-- Workers hired from one seat.
use Rattle.std.proofs.Common.{◌≡◌, ℕ, zero, suc, ◌+◌, ◌-◌, ◌*◌, ◌/◌, ◌%◌, ◌^◌, ◌<◌, ◌≤◌, List, [], ◌∷◌, ◌++◌, All, length, map, ap, subst, sym, refl, ◌∙◌, add-one, arith}
use Rattle.std.proofs.Math.Nat.{pow-succ'}
use Rattle.std.proofs.lemmas.List.Elements.{All-nil}
use Rattle.std.proofs.lemmas.List.Sums.{sum_by_push}
use Rattle.ip_codec.specs.declared.items.Item.{Item}
use Rattle.swap_core.specs.Plans.{Tables}
use Rattle.area_swap.specs.declared.board.View.{View}
use Rattle.area_swap.specs.Values.{AreasValue, IsOf}
use Rattle.area_swap.specs.Views.{kept_half, new_half}
use Rattle.worker_gate.specs.declared.outcomes.Outcome.{Outcome}
use Rattle.worker_gate.specs.declared.worker.Worker.{Worker}
use Rattle.worker_gate.specs.Outcomes.{draw_of, Ascends, IsJudged, asking}
use Rattle.worker_gate.specs.Gathering.{HasJudged, IsAtHand, shares}

-- Half of what is left, sixteen times.

power_more : (m : ℕ) → 2 ^ (m + 1) ≡ 2 * 2 ^ m
power_more m = ap (λ (k : ℕ). 2 ^ k) (add-one m) ∙ pow-succ' 2 m

pub some_power : (m : ℕ) → 0 < 2 ^ m
some_power zero = let one : 2 ^ 0 ≡ 1 = refl in omega (arith, one)
some_power (suc m) = omega (arith, pow-succ' 2 m, some_power m)

pub halved : (share n : ℕ) → share ≡ 2 ^ (16 - n) → n < 16 → (share % 2 ≡ 0) × (share / 2 ≡ 2 ^ (16 - (n + 1)))
halved share n is few =
    let m : ℕ = 16 - (n + 1) in
    let next : 16 - n ≡ m + 1 = omega (arith, few) in
    let whole : share ≡ 2 * 2 ^ m = is ∙ ap (λ (k : ℕ). 2 ^ k) next ∙ power_more m in
    let even : share % 2 ≡ 0 = omega (arith, whole) in
    let half : share / 2 ≡ 2 ^ m = omega (arith, whole) in (even, half)

-- A worker that has drawn nothing.

module _ (areas : AreasValue) (start end : ℕ) (v : View) (w : Worker) (known : w.seat.known ≡ new_half v) (none : w.outcomes.items ≡ []) (next : w.next ≡ start) (may : 0 < w.seat.known.right) where
  no_draws : w.seat.known.actor.draws ≡ []
  no_draws = ap (λ (x : View). x.actor.draws) known

  same_records : w.seat.known.seen.records ≡ v.seen.records
  same_records = ap (λ (x : View). x.seen.records) known

  pub hired_at_hand : IsOf areas w.seat → start ≤ v.seen.records → start ≤ end → end - start ≤ w.outcomes.room → IsAtHand areas start end w
  hired_at_hand its seen range room =
      let empty : length w.outcomes.items ≡ 0 = ap (λ (l : List Outcome). length l) none in
      let P : List Outcome → Type 0 = λ l. Ascends start l w.next in
      let first : start ≤ w.next = omega (arith, next) in
      record {
        work =
            record {
              its_areas = its;
              may_draw = may;
              reached = λ now later drawn. omega (arith, later.records, same_records, seen, next);
              from = first;
              until = omega (arith, next, range);
              room = omega (arith, empty, next, room);
            };
        idle = ap (λ (x : View). x.actor.state) known;
        draws = no_draws ∙ ap (λ (l : List Outcome). map draw_of l) (sym none);
        ascending = subst P (sym none) first;
      }

  pub hired_judged : (p : Tables) (items : List Item) → HasJudged p items start w
  hired_judged p items =
      let P : List Outcome → Type 0 = λ l. All (IsJudged p items start) l in
      let unasked : asking items start w.seat.known.actor.draws ≡ 0 = ap (λ (l : List (ℕ × ℕ)). asking items start l) no_draws in
      record { judged = subst P (sym none) (All-nil (IsJudged p items start)); reads = omega (arith, unasked) }

pub shares_more : (workers : List Worker) (w : Worker) → shares (workers ++ w ∷ []) ≡ shares workers + w.seat.known.share
shares_more workers w = sum_by_push (λ (x : Worker). x.seat.known.share) workers w

-- the seat that is split off from, again
pub still_same : (u v w : View) → v ≡ record u { share = v.share; right = v.right } → w ≡ kept_half v
    → w ≡ record u { share = w.share; right = w.right }
still_same u v w same half =
    let share : w.share ≡ v.share / 2 = ap (λ (x : View). x.share) half in
    let right : w.right ≡ v.right - v.right / 2 = ap (λ (x : View). x.right) half in
    half ∙ ap (λ (x : View). record x { share = v.share / 2; right = v.right - v.right / 2 }) same
    ∙ (λ i. record u { share = (sym share) i; right = (sym right) i })
