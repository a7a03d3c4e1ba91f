-- One actor more, and draws that move from one idle actor to another.
use Rattle.std.proofs.Common.{◌≡◌, ℕ, ◌+◌, ◌≢◌, cond, eqb, All, List, [], ◌∷◌, ◌++◌, set, sum_by, subst, sym, refl, ap, ◌∙◌, arith, inl, inr, length-append}
use mathlib.Core.Option.{some}
use lib.ListN.{get_elem?}
use Rattle.std.proofs.lemmas.List.Elements.{All-append, All-nil}
use Rattle.std.proofs.lemmas.List.Sums.{sum_by_push, sum_by-append}
use Rattle.swap_core.specs.States.{CoreState, IsActor, newcomer, joined_by_newcomer, merged}
use Rattle.swap_core.specs.Sound.{Sound, HoldsRightly, IsDrawRight, times, draw_count}
use Rattle.swap_core.specs.declared.actors.Actor.{Actor}
use Rattle.swap_core.specs.declared.actors.ActorState.{ActorState}
use Rattle.swap_core.specs.declared.actors.ActorState.TheVariants.{Idle}
use Rattle.aftr_base.proofs.PlaceLemmas.{at_set, at_push}
use Rattle.aftr_base.proofs.TotalLemmas.{sum_moved}
use Rattle.swap_core.proofs.Moves.{claim, weight}

-- the actors change so that no sum does, and each holds rightly and has drawn rightly
pub actors_change : (c : CoreState) (actors : List Actor) → Sound c
    → ((a : ℕ) → sum_by (weight a) actors ≡ sum_by (weight a) c.actors)
    → ((n : ℕ) → sum_by (times n) actors ≡ sum_by (times n) c.actors)
    → sum_by draw_count actors ≡ sum_by draw_count c.actors
    → ((who : ℕ) (x : Actor) → get_elem? actors who ≡ some x → HoldsRightly c x.state × All (IsDrawRight c) x.draws)
    → Sound (record c { actors = actors })
actors_change c actors h claims_kept times_kept all_kept right =
    record {
      planned = h.planned;
      there = h.there;
      two_counts = h.two_counts;
      two_areas = h.two_areas;
      rows = h.rows;
      counted = λ a l. h.counted a l ∙ sym (claims_kept a);
      current = h.current;
      writing = h.writing;
      left = h.left;
      held = λ who x at. (right who x at).0;
      next = h.next;
      pointed = h.pointed;
      placed = h.placed;
      each_once = λ n. times_kept n ∙ h.each_once n;
      all_drawn = all_kept ∙ h.all_drawn;
      under = λ who x at. (right who x at).1;
      within = h.within;
    }

pub newcomer_sound : (c : CoreState) → Sound c → Sound (joined_by_newcomer c)
newcomer_sound c h =
    actors_change c (c.actors ++ newcomer ∷ []) h
    (λ a. more (weight a) refl) (λ n. more (times n) refl) (more draw_count refl) right
  where
    more : (f : Actor → ℕ) → f newcomer ≡ 0 → sum_by f (c.actors ++ newcomer ∷ []) ≡ sum_by f c.actors
    more f e = omega (arith, sum_by_push f c.actors newcomer)

    right : (who : ℕ) (x : Actor) → get_elem? (c.actors ++ newcomer ∷ []) who ≡ some x
        → HoldsRightly c x.state × All (IsDrawRight c) x.draws
    right who x at =
        elim (at_push c.actors newcomer x who at) [
          | inl e ↦ (h.held who x e, h.under who x e)
          | inr e ↦
              let P : Actor → Type 0 = λ z. HoldsRightly c z.state × All (IsDrawRight c) z.draws in
              subst P e (tt, All-nil (IsDrawRight c))
        ]

pub merged_sound : (c : CoreState) (into from : ℕ) (x y : Actor) → Sound c → into ≢ from
    → IsActor c into x → x.state ≡ Idle → IsActor c from y → y.state ≡ Idle → Sound (merged c into x from y)
merged_sound c into from x y h apart at_x idle_x at_y idle_y =
    actors_change c (set (set c.actors from newcomer) into both) h
    (λ a. moved (weight a) refl (no_claim a)) (λ n. moved (times n) refl (sum_by-append (λ (d : ℕ × ℕ). let k : ℕ = cond (eqb d.0 n) 1 0 in k) x.draws y.draws))
    (moved draw_count refl (length-append x.draws y.draws)) right
  where
    both : Actor
    both = record { state = x.state; draws = x.draws ++ y.draws }

    moved : (f : Actor → ℕ) → f newcomer ≡ 0 → f both ≡ f x + f y
        → sum_by f (set (set c.actors from newcomer) into both) ≡ sum_by f c.actors
    moved f none e = sum_moved f c.actors into from x y both newcomer apart at_x at_y none e

    no_claim : (a : ℕ) → weight a both ≡ weight a x + weight a y
    no_claim a =
        let one : weight a x ≡ 0 = ap (λ (s : ActorState). claim a s) idle_x in
        let other : weight a y ≡ 0 = ap (λ (s : ActorState). claim a s) idle_y in
        let same : weight a both ≡ weight a x = refl in
        omega arith

    P : Actor → Type 0
    P z = HoldsRightly c z.state × All (IsDrawRight c) z.draws

    right : (who : ℕ) (z : Actor) → get_elem? (set (set c.actors from newcomer) into both) who ≡ some z → P z
    right who z at =
        elim (at_set (set c.actors from newcomer) into who both z at) [
          | inl t ↦
              subst P t.1 (h.held into x at_x, All-append (IsDrawRight c) x.draws y.draws (h.under into x at_x) (h.under from y at_y))
          | inr t ↦
              elim (at_set c.actors from who newcomer z t.1) [
                | inl u ↦ subst P u.1 (tt, All-nil (IsDrawRight c))
                | inr u ↦ (h.held who z u.1, h.under who z u.1)
              ]
        ]
