-- Members of a list, at whatever place.
use Rattle.std.proofs.Common.{◌≡◌, ℕ, zero, suc, ◌≤◌, ◌||◌, Bool, true, false, if◌then◌else◌, List, [], ◌∷◌, length, Some, refl, ap, sym, ◌∙◌, arith}
use Rattle.std.specs.Prelude.{filter, slice_get}
use Rattle.std.specs.List.{list_any}

abbrev pub IsIn : {X : Type 0} → List X → X → Type 0
IsIn xs x = (at : ℕ) × (slice_get xs at ≡ Some x)

pub record Passes {X : Type 0} (test : X → Bool) (xs : List X) (x : X) : Type 0 where
  pub there : IsIn xs x
  pub passes : test x ≡ true

pub filter_keeps : {X : Type 0} (test : X → Bool) (xs : List X) (x : X) (at : ℕ) → slice_get xs at ≡ Some x → test x ≡ true → IsIn (filter test xs) x
filter_keeps test [] x at there is = absurd cc
filter_keeps {X = X} test (y ∷ xs) x zero there is =
    let this : y ≡ x = cc in
    (0, ap (λ (b : Bool). slice_get (if b then y ∷ filter test xs else filter test xs) 0) (ap test this ∙ is) ∙ there)
filter_keeps {X = X} test (y ∷ xs) x (suc at) there is = by_head (test y) (filter_keeps test xs x at there is)
  where
    by_head : (b : Bool) → IsIn (filter test xs) x → IsIn (if b then y ∷ filter test xs else filter test xs) x
    by_head true found = (suc found.0, found.1)
    by_head false found = found

pub filter_came : {X : Type 0} (test : X → Bool) (xs : List X) (x : X) (at : ℕ) → slice_get (filter test xs) at ≡ Some x → Passes test xs x
filter_came test [] x at there = absurd cc
filter_came {X = X} test (y ∷ xs) x at there = by_head (test y) refl at there (λ k e. later (filter_came test xs x k e))
  where
    later : Passes test xs x → Passes test (y ∷ xs) x
    later found = record { there = (suc found.there.0, found.there.1); passes = found.passes }

    by_head : (b : Bool) → test y ≡ b → (k : ℕ) → slice_get (if b then y ∷ filter test xs else filter test xs) k ≡ Some x →
        ((k : ℕ) → slice_get (filter test xs) k ≡ Some x → Passes test (y ∷ xs) x) → Passes test (y ∷ xs) x
    by_head true e zero first rest =
        let this : y ≡ x = cc in
        record { there = (0, first); passes = ap test (sym this) ∙ e }
    by_head true e (suc k) first rest = rest k first
    by_head false e k first rest = rest k first

nothing_in : {X : Type 0} (x : X) (at : ℕ) → slice_get [] at ≡ Some x → ⊥
nothing_in x at is = absurd cc

-- two lists of at most one element, with the same members
pub same_one : {X : Type 0} (xs ys : List X) → length xs ≤ 1 → length ys ≤ 1 → ((x : X) → IsIn xs x → IsIn ys x) → ((y : X) → IsIn ys y → IsIn xs y) → xs ≡ ys
same_one [] [] few small to from = refl
same_one [] (y ∷ ys) few small to from = let found = from y (0, refl) in absurd (nothing_in y found.0 found.1)
same_one (x ∷ xs) [] few small to from = let found = to x (0, refl) in absurd (nothing_in x found.0 found.1)
same_one (x ∷ x2 ∷ xs) (y ∷ ys) few small to from = absurd (omega (arith, few))
same_one (x ∷ []) (y ∷ y2 ∷ ys) few small to from = absurd (omega (arith, small))
same_one {X = X} (x ∷ []) (y ∷ []) few small to from = let found = to x (0, refl) in by_place found.0 found.1
  where
    by_place : (at : ℕ) → slice_get (y ∷ []) at ≡ Some x → x ∷ [] ≡ y ∷ []
    by_place zero e = let this : y ≡ x = cc in ap (λ (z : X). z ∷ []) (sym this)
    by_place (suc at) e = absurd (nothing_in x at e)

pub any_found : {X : Type 0} (test : X → Bool) (xs : List X) → list_any test xs ≡ true → (x : X) × Passes test xs x
any_found test [] is = absurd cc
any_found {X = X} test (y ∷ xs) is = by_head (test y) refl is (λ e. any_found test xs e)
  where
    by_head : (b : Bool) → test y ≡ b → (b || list_any test xs) ≡ true → (list_any test xs ≡ true → (x : X) × Passes test xs x) →
        (x : X) × Passes test (y ∷ xs) x
    by_head true e some rest = (y, record { there = (0, refl); passes = e })
    by_head false e some rest = let found = rest some in (found.0, record { there = (suc found.1.there.0, found.1.there.1); passes = found.1.passes })

pub any_of : {X : Type 0} (test : X → Bool) (xs : List X) (x : X) (at : ℕ) → slice_get xs at ≡ Some x → test x ≡ true → list_any test xs ≡ true
any_of test [] x at there is = absurd cc
any_of {X = X} test (y ∷ xs) x zero there is =
    let this : y ≡ x = cc in
    ap (λ (b : Bool). b || list_any test xs) (ap test this ∙ is)
any_of {X = X} test (y ∷ xs) x (suc at) there is = by_head (test y) (any_of test xs x at there is)
  where
    by_head : (b : Bool) → list_any test xs ≡ true → (b || list_any test xs) ≡ true
    by_head true some = refl
    by_head false some = some

pub same_test : (a b : Bool) → (a ≡ true → b ≡ true) → (b ≡ true → a ≡ true) → a ≡ b
same_test true b to from = sym (to refl)
same_test false true to from = from refl
same_test false false to from = refl
