-- A draw: the next number, under the version in force.
use Rattle.std.proofs.Common.{◌≡◌, ℕ, ◌+◌, ◌<◌, ◌≤◌, Bool, true, cond, eqb, nat_le, All, List, [], ◌∷◌, length, set, sum_by, slice_index, subst, sym, refl, ap, ◌∙◌, arith, inl, inr, eq-eqb, ne_eqb, lt-ltb, le-ltb, le-leb, suc}
use mathlib.Core.Option.{some}
use lib.ListN.{get_elem?}
use Rattle.std.proofs.lemmas.Bool.{cases_eq, cases_lt}
use Rattle.std.proofs.lemmas.List.{length_push}
use Rattle.std.proofs.lemmas.List.Elements.{All-push, All-weaker}
use Rattle.std.proofs.lemmas.List.Sums.{sum_by_push, sum_by-cons}
use Rattle.swap_core.specs.Plans.{limit}
use Rattle.swap_core.specs.States.{CoreState, IsActor, with_draw, drawn}
use Rattle.swap_core.specs.Points.{in_force}
use Rattle.swap_core.specs.Sound.{Sound, HoldsRightly, IsDrawRight, times, draw_count, once_below}
use Rattle.swap_core.specs.declared.actors.Actor.{Actor}
use Rattle.aftr_base.proofs.PlaceLemmas.{at_set}
use Rattle.aftr_base.proofs.TotalLemmas.{sum_changed, sum_kept}
use Rattle.swap_core.proofs.Moves.{weight}

-- at a number that no point is above, the version in force is the number of points
all_in_force : (points : List ℕ) (n : ℕ) → ((k : ℕ) → k < length points → slice_index points k ≤ n) → in_force points n ≡ length points
all_in_force [] n h = refl
all_in_force (p ∷ ps) n h =
    let first : nat_le p n ≡ true = le-leb p n (h 0 (omega arith)) in
    let one : (let k : ℕ = cond (nat_le p n) 1 0 in k) ≡ 1 = ap (λ (t : Bool). let k : ℕ = cond t 1 0 in k) first in
    let rest : in_force ps n ≡ length ps = all_in_force ps n (λ k l. h (suc k) (omega arith)) in
    omega (arith, sum_by-cons (λ (q : ℕ). cond (nat_le q n) 1 0) p ps)

pub version_in_force : (c : CoreState) → Sound c → c.version ≡ in_force c.points c.records
version_in_force c h = sym h.pointed ∙ sym (all_in_force c.points c.records h.placed.reached)

one_more : (n r : ℕ) → (let k : ℕ = cond (eqb r n) 1 0 in k) + once_below n r ≡ once_below n (r + 1)
one_more n r =
    elim (cases_eq r n) [
      | inl e ↦
          let a : (let k : ℕ = cond (eqb r n) 1 0 in k) ≡ 1 = ap (λ (t : Bool). let k : ℕ = cond t 1 0 in k) (eq-eqb r n e) in
          let b : once_below n r ≡ 0 = ap (λ (t : Bool). let k : ℕ = cond t 1 0 in k) (le-ltb n r (omega arith)) in
          let d : once_below n (r + 1) ≡ 1 = ap (λ (t : Bool). let k : ℕ = cond t 1 0 in k) (lt-ltb n (r + 1) (omega arith)) in
          omega arith
      | inr e ↦
          let a : (let k : ℕ = cond (eqb r n) 1 0 in k) ≡ 0 = ap (λ (t : Bool). let k : ℕ = cond t 1 0 in k) (ne_eqb r n e) in
          elim (cases_lt n r) [
            | inl l ↦
                let b : once_below n r ≡ 1 = ap (λ (t : Bool). let k : ℕ = cond t 1 0 in k) (lt-ltb n r l) in
                let d : once_below n (r + 1) ≡ 1 = ap (λ (t : Bool). let k : ℕ = cond t 1 0 in k) (lt-ltb n (r + 1) (omega arith)) in
                omega arith
            | inr l ↦
                let b : once_below n r ≡ 0 = ap (λ (t : Bool). let k : ℕ = cond t 1 0 in k) (le-ltb n r l) in
                let d : once_below n (r + 1) ≡ 0 = ap (λ (t : Bool). let k : ℕ = cond t 1 0 in k) (le-ltb n (r + 1) (omega arith)) in
                omega arith
          ]
    ]

pub draws_sound : (c : CoreState) (who : ℕ) (x : Actor) → Sound c → IsActor c who x → c.records < limit c.plan c.version
    → Sound (drawn c who x)
draws_sound c who x h at room =
    record {
      planned = h.planned;
      there = h.there;
      two_counts = h.two_counts;
      two_areas = h.two_areas;
      rows = h.rows;
      counted = λ a l. h.counted a l ∙ sym (sum_kept (weight a) c.actors who x y at refl);
      current = h.current;
      writing = h.writing;
      left = h.left;
      held = held;
      next = λ w. ((h.next w).0, omega (arith, (h.next w).1));
      pointed = h.pointed;
      placed = record { rising = h.placed.rising; reached = λ k l. omega (arith, h.placed.reached k l); inside = h.placed.inside };
      each_once = once;
      all_drawn =
          let e : sum_by draw_count (set c.actors who y) + draw_count x ≡ sum_by draw_count c.actors + draw_count y =
          sum_changed draw_count c.actors who x y at in
          let more : draw_count y ≡ draw_count x + 1 = length_push x.draws (c.records, c.version) in
          omega (arith, h.all_drawn);
      under = under;
      within = omega arith;
    }
  where
    y : Actor
    y = with_draw c x

    held : (i : ℕ) (z : Actor) → get_elem? (set c.actors who y) i ≡ some z → HoldsRightly c z.state
    held i z e =
        elim (at_set c.actors who i y z e) [
          | inl t ↦ let P : Actor → Type 0 = λ v. HoldsRightly c v.state in subst P t.1 (h.held who x at)
          | inr t ↦ h.held i z t.1
        ]

    once : (n : ℕ) → sum_by (times n) (set c.actors who y) ≡ once_below n (c.records + 1)
    once n =
        let e : sum_by (times n) (set c.actors who y) + times n x ≡ sum_by (times n) c.actors + times n y =
        sum_changed (times n) c.actors who x y at in
        let more : times n y ≡ times n x + (let k : ℕ = cond (eqb c.records n) 1 0 in k) =
        sum_by_push (λ (d : ℕ × ℕ). let k : ℕ = cond (eqb d.0 n) 1 0 in k) x.draws (c.records, c.version) in
        let was : sum_by (times n) c.actors ≡ once_below n c.records = h.each_once n in
        omega (arith, one_more n c.records)

    older : (d : ℕ × ℕ) → IsDrawRight c d → IsDrawRight (drawn c who x) d
    older d r = (omega (arith, r.0), r.1)

    under : (i : ℕ) (z : Actor) → get_elem? (set c.actors who y) i ≡ some z → All (IsDrawRight (drawn c who x)) z.draws
    under i z e =
        elim (at_set c.actors who i y z e) [
          | inl t ↦
              let P : Actor → Type 0 = λ v. All (IsDrawRight (drawn c who x)) v.draws in
              let newest : IsDrawRight (drawn c who x) (c.records, c.version) = (omega arith, version_in_force c h) in
              let all : All (IsDrawRight (drawn c who x)) y.draws =
              All-push (IsDrawRight (drawn c who x)) x.draws (c.records, c.version)
              (All-weaker (IsDrawRight c) (IsDrawRight (drawn c who x)) older x.draws (h.under who x at)) newest in
              subst P t.1 all
          | inr t ↦ All-weaker (IsDrawRight c) (IsDrawRight (drawn c who x)) older z.draws (h.under i z t.1)
        ]
