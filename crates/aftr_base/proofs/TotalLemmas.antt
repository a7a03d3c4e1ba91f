-- Sums over a list: how they change where one element does, and where what one counts goes to another.
use Rattle.std.proofs.Common.{◌≡◌, ℕ, ◌+◌, ◌≤◌, ◌≢◌, List, get_or, set, sum_by, sym, ap, ◌∙◌, arith}
use mathlib.Core.Option.{some}
use lib.ListN.{get_elem?}
use Rattle.std.proofs.lemmas.List.Sums.{sum_by-set, get_or-le-sum_by}
use Rattle.aftr_base.proofs.PlaceLemmas.{at_there, at_read, at_set_else}

module _ {A : Type 0} (f : A → ℕ) where
  -- the element x gives way to y
  pub sum_changed : (xs : List A) (i : ℕ) (x y : A) → get_elem? xs i ≡ some x → sum_by f (set xs i y) + f x ≡ sum_by f xs + f y
  sum_changed xs i x y e =
      ap (λ (z : A). sum_by f (set xs i y) + f z) (sym (at_read xs i x x e)) ∙ sum_by-set f xs i y x (at_there xs i x e)

  pub sum_kept : (xs : List A) (i : ℕ) (x y : A) → get_elem? xs i ≡ some x → f y ≡ f x → sum_by f (set xs i y) ≡ sum_by f xs
  sum_kept xs i x y e same = omega (arith, sum_changed xs i x y e)

  pub part_of_sum : (xs : List A) (i : ℕ) (x : A) → get_elem? xs i ≡ some x → f x ≤ sum_by f xs
  part_of_sum xs i x e =
      let whole : f (get_or xs i x) ≤ sum_by f xs = get_or-le-sum_by f xs i x (at_there xs i x e) in
      let here : f (get_or xs i x) ≡ f x = ap f (at_read xs i x x e) in
      omega arith

  -- the element y gives way to one that counts nothing, and what it counted goes to x
  pub sum_moved : (xs : List A) (i j : ℕ) (x y z w : A) → i ≢ j → get_elem? xs i ≡ some x → get_elem? xs j ≡ some y
      → f w ≡ 0 → f z ≡ f x + f y → sum_by f (set (set xs j w) i z) ≡ sum_by f xs
  sum_moved xs i j x y z w apart at_i at_j none both =
      let first : sum_by f (set xs j w) + f y ≡ sum_by f xs + f w = sum_changed xs j y w at_j in
      let second : sum_by f (set (set xs j w) i z) + f x ≡ sum_by f (set xs j w) + f z =
      sum_changed (set xs j w) i x z (at_set_else xs j i w x apart at_i) in
      omega arith
