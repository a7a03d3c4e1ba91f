-- Places of a list.
use Rattle.std.proofs.Common.{List, arith, false, length, subst, sym, true, ℕ, ◌<◌, ◌≡◌, ◌≢◌, inl, inr}
use Rattle.std.specs.Prelude.{slice_index_or, slice_set, ◌==◌}
use Rattle.std.proofs.lemmas.Bool.{cases_eq}
use Rattle.std.proofs.lemmas.Bool.Decides.{nat_tests}
use Rattle.std.proofs.lemmas.List.{get_or-set_other, get_or_default}
use Rattle.std.proofs.lemmas.Grind.{get_or-set_at}

pub test_same : (a b : ℕ) → a ≡ b → (a == b) ≡ true
test_same a b e = grind (arith, nat_tests, e)

pub test_other : (a b : ℕ) → a ≢ b → (a == b) ≡ false
test_other a b n = grind (arith, nat_tests, n)

-- a place that is there does not ask what stands for one that is not
pub at_with : {E : Type 0} (lines : List E) (at : ℕ) (d e : E) → at < length lines → slice_index_or lines at d ≡ slice_index_or lines at e
at_with lines at d e fits = get_or_default lines at d e fits

-- a fact of each place, after one was written, with one such value
pub at_set_with : {E : Type 0} (d : E) (P : ℕ → E → Type 0) (lines : List E) (at n : ℕ) (new : E) → length lines ≡ n → at < n →
    ((i : ℕ) → i < n → i ≢ at → P i (slice_index_or lines i d)) → P at new → (i : ℕ) → i < n → P i (slice_index_or (slice_set lines at new) i d)
at_set_with {E} d P lines at n new size inside rest here i fits =
    elim (cases_eq i at) [
      | inl same ↦
          let e : slice_index_or (slice_set lines at new) i d ≡ new = get_or-set_at lines at i new d same (omega (arith, size, inside)) in
          let Q : E → Type 0 = λ v. P i v in
          let R : ℕ → Type 0 = λ j. P j new in
          subst Q (sym e) (subst R (sym same) here)
      | inr other ↦
          let e : slice_index_or (slice_set lines at new) i d ≡ slice_index_or lines i d = get_or-set_other lines at i new d other in
          let Q : E → Type 0 = λ v. P i v in
          subst Q (sym e) (rest i fits other)
    ]

-- the same with any such value
pub at_set : {E : Type 0} (P : ℕ → E → Type 0) (lines : List E) (at n : ℕ) (new : E) → length lines ≡ n → at < n →
    ((i : ℕ) (d : E) → i < n → i ≢ at → P i (slice_index_or lines i d)) → P at new →
    (i : ℕ) (d : E) → i < n → P i (slice_index_or (slice_set lines at new) i d)
at_set P lines at n new size inside rest here i d = at_set_with d P lines at n new size inside (λ j. rest j d) here i
