-- The places of the words differ, and those of different parts are far from one another.
use Rattle.std.proofs.Common.{◌≡◌, ◌≢◌, ℕ, zero, suc, ◌+◌, ◌<◌, ◌≤◌, ◌⊎◌, refl, ap, arith, inl, inr}
use Rattle.std.proofs.lemmas.Bool.{cases_eq, cases_lt}
use Rattle.area_swap.specs.Places.{Role, TheVersion, ClaimsOn, RowWord, IsRole, PartsAreApart, all_places, claims_place, gap, part, place, row_place}

claims_apart : (a b : ℕ) → a ≢ b → (claims_place a + gap ≤ claims_place b) ⊎ (claims_place b + gap ≤ claims_place a)
claims_apart a b n =
    elim (cases_lt a b) [
      | inl l ↦ inl (omega arith)
      | inr l ↦ inr (omega arith)
    ]

rows_apart : (long a b j k : ℕ) → a < 2 → b < 2 → j < long → k < long → a ≢ b
    → (row_place long a + j + gap ≤ row_place long b + k) ⊎ (row_place long b + k + gap ≤ row_place long a + j)
rows_apart long zero zero j k la lb lj lk n = absurd (n refl)
rows_apart long zero (suc zero) j k la lb lj lk n = inl (omega arith)
rows_apart long zero (suc (suc b)) j k la lb lj lk n = absurd (omega arith)
rows_apart long (suc zero) zero j k la lb lj lk n = inr (omega arith)
rows_apart long (suc zero) (suc zero) j k la lb lj lk n = absurd (n refl)
rows_apart long (suc zero) (suc (suc b)) j k la lb lj lk n = absurd (omega arith)
rows_apart long (suc (suc a)) b j k la lb lj lk n = absurd (omega arith)

-- a row's word is one of the words, and so are all words of a table in it
pub row_fits : (a long j : ℕ) → a < 2 → j < long → row_place long a + j + gap < all_places long
row_fits zero long j l m = omega arith
row_fits (suc zero) long j l m = omega arith
row_fits (suc (suc a)) long j l m = absurd (omega arith)

pub table_in_row : (a long k : ℕ) → a < 2 → k ≤ long → row_place long a + k < all_places long
table_in_row zero long k l m = omega arith
table_in_row (suc zero) long k l m = omega arith
table_in_row (suc (suc a)) long k l m = absurd (omega arith)

far : (long : ℕ) (r s : Role) → IsRole long r → IsRole long s → part r ≢ part s
    → (place long r + gap ≤ place long s) ⊎ (place long s + gap ≤ place long r)
far long TheVersion TheVersion h k n = absurd (n refl)
far long TheVersion (ClaimsOn b) h k n = inl (omega arith)
far long TheVersion (RowWord b j) h k n = inl (omega arith)
far long (ClaimsOn a) TheVersion h k n = inr (omega arith)
far long (ClaimsOn a) (ClaimsOn b) h k n = claims_apart a b (λ e. n (ap ClaimsOn e))
far long (ClaimsOn a) (RowWord b j) h k n = inl (omega arith)
far long (RowWord a i) TheVersion h k n = inr (omega arith)
far long (RowWord a i) (ClaimsOn b) h k n = inr (omega arith)
far long (RowWord a i) (RowWord b j) h k n = rows_apart long a b i j h.0 k.0 h.1 k.1 (λ e. n (ap (λ (c : ℕ). RowWord c 0) e))

starts : (long : ℕ) (r : Role) → IsRole long r → gap ≤ place long r
starts long TheVersion h = omega arith
starts long (ClaimsOn a) h = omega arith
starts long (RowWord a j) h = omega arith

ends : (long : ℕ) (r : Role) → IsRole long r → place long r + gap < all_places long
ends long TheVersion h = omega arith
ends long (ClaimsOn a) h = omega arith
ends long (RowWord a j) h = row_fits a long j h.0 h.1

pub parts_apart : (long : ℕ) → PartsAreApart long
parts_apart long = record { apart = far long; before = starts long; behind = ends long }

far_differ : (i k : ℕ) → (i + gap ≤ k) ⊎ (k + gap ≤ i) → i ≢ k
far_differ i k (inl l) e = omega arith
far_differ i k (inr l) e = omega arith

-- no two words have one place
pub places_differ : (long : ℕ) (r s : Role) → IsRole long r → IsRole long s → r ≢ s → place long r ≢ place long s
places_differ long TheVersion TheVersion h k n = absurd (n refl)
places_differ long TheVersion (ClaimsOn b) h k n = far_differ _ _ (far long TheVersion (ClaimsOn b) h k n)
places_differ long TheVersion (RowWord b j) h k n = far_differ _ _ (far long TheVersion (RowWord b j) h k (λ e. cc))
places_differ long (ClaimsOn a) TheVersion h k n = far_differ _ _ (far long (ClaimsOn a) TheVersion h k n)
places_differ long (ClaimsOn a) (ClaimsOn b) h k n = far_differ _ _ (far long (ClaimsOn a) (ClaimsOn b) h k n)
places_differ long (ClaimsOn a) (RowWord b j) h k n = far_differ _ _ (far long (ClaimsOn a) (RowWord b j) h k (λ e. cc))
places_differ long (RowWord a i) TheVersion h k n = far_differ _ _ (far long (RowWord a i) TheVersion h k (λ e. cc))
places_differ long (RowWord a i) (ClaimsOn b) h k n = far_differ _ _ (far long (RowWord a i) (ClaimsOn b) h k (λ e. cc))
places_differ long (RowWord a i) (RowWord b j) h k n =
    elim (cases_eq a b) [
      | inl e ↦ in_one_row e
      | inr m ↦ far_differ _ _ (rows_apart long a b i j h.0 k.0 h.1 k.1 m)
    ]
  where
    in_one_row : a ≡ b → row_place long a + i ≢ row_place long b + j
    in_one_row e same =
        let row : row_place long a ≡ row_place long b = ap (λ (c : ℕ). row_place long c) e in
        let word : i ≡ j = omega arith in
        let both : RowWord a i ≡ RowWord b j = λ t. RowWord (e t) (word t) in
        n both
