-- Lists of views and actors: who stands where, and sums over all of them.
use Rattle.std.proofs.Common.{◌≡◌, ℕ, zero, suc, ◌+◌, ◌≤◌, ◌≢◌, ◌⊎◌, List, [], ◌∷◌, ◌++◌, map, length, sum_by, sym, refl, ap, arith, inl, inr}
use mathlib.Core.Option.{some, some-injective, some-ne-none}
use lib.ListN.{get_elem?}
use Rattle.std.proofs.lemmas.List.Sums.{sum_by-cons}
use Rattle.aftr_base.proofs.TotalLemmas.{part_of_sum}

-- a member of a mapped list comes from a member
pub map_at : {A B : Type 0} (f : A → B) (xs : List A) (i : ℕ) (b : B) → get_elem? (map f xs) i ≡ some b
    → (a : A) × (get_elem? xs i ≡ some a) × (f a ≡ b)
map_at f [] i b e = absurd (some-ne-none b (sym e))
map_at f (x ∷ xs) zero b e = (x, refl, some-injective (f x) b e)
map_at f (x ∷ xs) (suc i) b e = map_at f xs i b e

-- a member of a list with one more is one of the list, or the last
pub at_end : {A : Type 0} (xs : List A) (a b : A) (i : ℕ) → get_elem? (xs ++ a ∷ []) i ≡ some b
    → (get_elem? xs i ≡ some b) ⊎ ((i ≡ length xs) × (a ≡ b))
at_end [] a b zero e = inr (refl, some-injective a b e)
at_end [] a b (suc i) e = absurd (some-ne-none b (sym e))
at_end (x ∷ xs) a b zero e = inl e
at_end (x ∷ xs) a b (suc i) e =
    elim (at_end xs a b i e) [ inl k ↦ inl k | inr k ↦ inr (ap suc k.0, k.1) ]

pub sum_map : {A B : Type 0} (f : B → ℕ) (g : A → B) (xs : List A) → sum_by f (map g xs) ≡ sum_by (λ (x : A). f (g x)) xs
sum_map f g [] = refl
sum_map {A} f g (x ∷ xs) =
    omega (arith, sum_by-cons f (g x) (map g xs), sum_by-cons (λ (y : A). f (g y)) x xs, sum_map f g xs)

module _ {A : Type 0} where
  -- each member counts at most as much
  pub sum_below : (f g : A → ℕ) (xs : List A) → ((i : ℕ) (x : A) → get_elem? xs i ≡ some x → f x ≤ g x) → sum_by f xs ≤ sum_by g xs
  sum_below f g [] h = omega arith
  sum_below f g (x ∷ xs) h =
      let rest : sum_by f xs ≤ sum_by g xs = sum_below f g xs (λ i y e. h (suc i) y e) in
      let here : f x ≤ g x = h 0 x refl in
      omega (arith, sum_by-cons f x xs, sum_by-cons g x xs)

  pub sum_none : (f : A → ℕ) (xs : List A) → ((i : ℕ) (x : A) → get_elem? xs i ≡ some x → f x ≡ 0) → sum_by f xs ≡ 0
  sum_none f [] h = refl
  sum_none f (x ∷ xs) h =
      let rest : sum_by f xs ≡ 0 = sum_none f xs (λ i y e. h (suc i) y e) in
      let here : f x ≡ 0 = h 0 x refl in
      omega (arith, sum_by-cons f x xs)

  -- one member counts, and no other
  pub sum_alone : (f : A → ℕ) (xs : List A) (i : ℕ) (x : A) → get_elem? xs i ≡ some x
      → ((j : ℕ) (y : A) → j ≢ i → get_elem? xs j ≡ some y → f y ≡ 0) → sum_by f xs ≡ f x
  sum_alone f [] i x e h = absurd (some-ne-none x (sym e))
  sum_alone f (y ∷ ys) zero x e h =
      let here : f y ≡ f x = ap f (some-injective y x e) in
      let rest : sum_by f ys ≡ 0 = sum_none f ys (λ j z k. h (suc j) z (λ n. omega arith) k) in
      omega (arith, sum_by-cons f y ys)
  sum_alone f (y ∷ ys) (suc i) x e h =
      let none : f y ≡ 0 = h 0 y (λ n. omega arith) refl in
      let rest : sum_by f ys ≡ f x = sum_alone f ys i x e (λ j z n k. h (suc j) z (λ m. n (omega arith)) k) in
      omega (arith, sum_by-cons f y ys)

  pub two_parts : (f : A → ℕ) (xs : List A) (i j : ℕ) (x y : A) → i ≢ j → get_elem? xs i ≡ some x → get_elem? xs j ≡ some y
      → f x + f y ≤ sum_by f xs
  two_parts f [] i j x y n e k = absurd (some-ne-none x (sym e))
  two_parts f (z ∷ zs) zero zero x y n e k = absurd (n refl)
  two_parts f (z ∷ zs) zero (suc j) x y n e k =
      let here : f z ≡ f x = ap f (some-injective z x e) in
      omega (arith, sum_by-cons f z zs, part_of_sum f zs j y k)
  two_parts f (z ∷ zs) (suc i) zero x y n e k =
      let here : f z ≡ f y = ap f (some-injective z y k) in
      omega (arith, sum_by-cons f z zs, part_of_sum f zs i x e)
  two_parts f (z ∷ zs) (suc i) (suc j) x y n e k =
      omega (arith, sum_by-cons f z zs, two_parts f zs i j x y (λ m. n (ap suc m)) e k)
