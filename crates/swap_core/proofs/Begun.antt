-- The opening is sound.
use Rattle.std.proofs.Common.{◌≡◌, ℕ, zero, suc, ◌-◌, ◌*◌, ◌<◌, ◌≤◌, All, Bool, cond, le-ltb, List, [], ◌∷◌, length, replicate, sum_by, slice_index, subst, sym, refl, ap, ◌∙◌, arith, length-append, mul-zero}
use mathlib.Core.Option.{some}
use lib.ListN.{get_elem?}
use Rattle.std.proofs.lemmas.List.{length-replicate, get_or_append_left}
use Rattle.std.proofs.lemmas.List.Folds.{sum_by-replicate}
use Rattle.std.proofs.lemmas.List.Elements.{All-nil}
use Rattle.swap_core.specs.Plans.{Tables, IsPlan, table, width}
use Rattle.swap_core.specs.States.{CoreState, area, newcomer, opening, row_of}
use Rattle.swap_core.specs.Sound.{Sound, HoldsRightly, IsDrawRight, times, draw_count}
use Rattle.swap_core.specs.declared.actors.Actor.{Actor}
use Rattle.swap_core.specs.declared.actors.DeskState.TheVariants.{Resting}
use Rattle.aftr_base.proofs.PlaceLemmas.{at_replicate}
use Rattle.swap_core.proofs.PlanLemmas.{table_fits}
use Rattle.swap_core.proofs.Moves.{weight}

pub row_length : (size : ℕ) (words : List ℕ) → length words ≤ size → length (row_of size words) ≡ size
row_length size words l =
    length-append words (replicate (size - length words) 0) ∙ omega (arith, length-replicate {A = ℕ} (size - length words) 0)

pub opening_sound : (plan : Tables) (actors : ℕ) → IsPlan plan → Sound (opening plan actors)
opening_sound plan actors h =
    record {
      planned = h;
      there = omega (arith, h.paired);
      two_counts = refl;
      two_areas = refl;
      rows = rows;
      counted = counted;
      current = λ j l. get_or_append_left (table plan 0) (replicate (width plan - length (table plan 0)) 0) 0 j l;
      writing = λ j e. cc;
      left = λ j n l. refl;
      held = λ who x at. (right who x at).0;
      next = λ w. absurd w;
      pointed = refl;
      placed = record { rising = λ k l. absurd (omega arith); reached = λ k l. absurd (omega arith); inside = λ k l. absurd (omega arith) };
      each_once = λ n. nothing (times n) refl ∙ sym (ap (λ (t : Bool). let k : ℕ = cond t 1 0 in k) (le-ltb n 0 (omega arith)));
      all_drawn = nothing draw_count refl;
      under = λ who x at. (right who x at).1;
      within = omega arith;
    }
  where
    nothing : (f : Actor → ℕ) → f newcomer ≡ 0 → sum_by f (replicate actors newcomer) ≡ 0
    nothing f e = sum_by-replicate f actors newcomer ∙ ap (λ (n : ℕ). actors * n) e ∙ mul-zero actors

    rows : (a : ℕ) → a < 2 → length (area (opening plan actors) a) ≡ width plan
    rows zero l = row_length (width plan) (table plan 0) (table_fits plan 0)
    rows (suc zero) l = length-replicate (width plan) 0
    rows (suc (suc a)) l = absurd (omega arith)

    counted : (a : ℕ) → a < 2 → slice_index (0 ∷ 0 ∷ []) a ≡ sum_by (weight a) (replicate actors newcomer)
    counted zero l = sym (nothing (weight 0) refl)
    counted (suc zero) l = sym (nothing (weight 1) refl)
    counted (suc (suc a)) l = absurd (omega arith)

    right : (who : ℕ) (x : Actor) → get_elem? (replicate actors newcomer) who ≡ some x
        → HoldsRightly (opening plan actors) x.state × All (IsDrawRight (opening plan actors)) x.draws
    right who x at =
        let P : Actor → Type 0 = λ z. HoldsRightly (opening plan actors) z.state × All (IsDrawRight (opening plan actors)) z.draws in
        subst P (at_replicate actors newcomer x who at) (tt, All-nil (IsDrawRight (opening plan actors)))

-- what the opening is made of
pub opened : (plan : Tables) (n : ℕ) (first second : List ℕ) (actors : List Actor) (points : List ℕ)
    → first ≡ row_of (width plan) (table plan 0) → second ≡ row_of (width plan) [] → actors ≡ replicate n newcomer → points ≡ []
    → (let made : CoreState = record {
      plan = plan;
      version = 0;
      records = 0;
      counts = 0 ∷ 0 ∷ [];
      areas = first ∷ second ∷ [];
      actors = actors;
      desk = Resting;
      points = points;
    } in made) ≡ opening plan n
opened plan n first second actors points is_first is_second are_actors no_points =
    let empty : second ≡ replicate (width plan) 0 =
    is_second ∙ ap (λ (k : ℕ). replicate k 0) (let all : width plan - 0 ≡ width plan = omega arith in all) in
    λ i. record {
      plan = plan;
      version = 0;
      records = 0;
      counts = 0 ∷ 0 ∷ [];
      areas = is_first i ∷ empty i ∷ [];
      actors = are_actors i;
      desk = Resting;
      points = no_points i;
    }
