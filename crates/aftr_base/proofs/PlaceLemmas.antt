-- Lists that are read by an option: what stands where after a write or at a longer end.
use Rattle.std.proofs.Common.{◌≡◌, ℕ, zero, suc, ◌<◌, ◌≤◌, ◌≢◌, ◌⊎◌, List, [], ◌∷◌, ◌++◌, length, get_or, set, replicate, sym, refl, ap, inl, inr, ⊎_elim, arith}
use mathlib.Core.Option.{some, none, some-injective, some-ne-none}
use lib.ListN.{get_elem?}

module _ {A : Type 0} where
  pub at_there : (l : List A) (i : ℕ) (a : A) → get_elem? l i ≡ some a → i < length l
  at_there [] i a e = absurd (some-ne-none a (sym e))
  at_there (x ∷ xs) zero a e = omega arith
  at_there (x ∷ xs) (suc i) a e = omega (arith, at_there xs i a e)

  pub at_read : (l : List A) (i : ℕ) (a d : A) → get_elem? l i ≡ some a → get_or l i d ≡ a
  at_read [] i a d e = absurd (some-ne-none a (sym e))
  at_read (x ∷ xs) zero a d e = some-injective x a e
  at_read (x ∷ xs) (suc i) a d e = at_read xs i a d e

  pub at_index : (l : List A) (i : ℕ) (a : A) → i < length l → a ≡ get_or l i a → get_elem? l i ≡ some a
  at_index [] i a h e = absurd (omega arith)
  at_index (x ∷ xs) zero a h e = ap some (sym e)
  at_index (x ∷ xs) (suc i) a h e = at_index xs i a (omega arith) e

  pub at_past : (l : List A) (i : ℕ) → length l ≤ i → get_elem? l i ≡ none
  at_past [] i h = refl
  at_past (x ∷ xs) zero h = absurd (omega arith)
  at_past (x ∷ xs) (suc i) h = at_past xs i (omega arith)

  pub at_set : (l : List A) (i j : ℕ) (a b : A) → get_elem? (set l i a) j ≡ some b
      → ((j ≡ i) × (a ≡ b)) ⊎ ((j ≢ i) × (get_elem? l j ≡ some b))
  at_set [] i j a b e = absurd (some-ne-none b (sym e))
  at_set (x ∷ xs) zero zero a b e = inl (refl, some-injective a b e)
  at_set (x ∷ xs) zero (suc j) a b e = inr ((λ h. omega arith), e)
  at_set (x ∷ xs) (suc i) zero a b e = inr ((λ h. omega arith), e)
  at_set (x ∷ xs) (suc i) (suc j) a b e =
      ⊎_elim (λ t. inl (ap suc t.0, t.1)) (λ t. let n = t.0 in inr ((λ h. n (omega arith)), t.1)) (at_set xs i j a b e)

  pub at_set_else : (l : List A) (i j : ℕ) (a b : A) → j ≢ i → get_elem? l j ≡ some b → get_elem? (set l i a) j ≡ some b
  at_set_else [] i j a b n e = e
  at_set_else (x ∷ xs) zero zero a b n e = absurd (n refl)
  at_set_else (x ∷ xs) zero (suc j) a b n e = e
  at_set_else (x ∷ xs) (suc i) zero a b n e = e
  at_set_else (x ∷ xs) (suc i) (suc j) a b n e = at_set_else xs i j a b (λ h. n (ap suc h)) e

  pub at_push : (l : List A) (a b : A) (j : ℕ) → get_elem? (l ++ a ∷ []) j ≡ some b → (get_elem? l j ≡ some b) ⊎ (a ≡ b)
  at_push [] a b zero e = inr (some-injective a b e)
  at_push [] a b (suc j) e = absurd (some-ne-none b (sym e))
  at_push (x ∷ xs) a b zero e = inl e
  at_push (x ∷ xs) a b (suc j) e = at_push xs a b j e

  pub at_replicate : (n : ℕ) (a b : A) (j : ℕ) → get_elem? (replicate n a) j ≡ some b → a ≡ b
  at_replicate zero a b j e = absurd (some-ne-none b (sym e))
  at_replicate (suc n) a b zero e = some-injective a b e
  at_replicate (suc n) a b (suc j) e = at_replicate n a b j e
