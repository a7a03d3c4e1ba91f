-- Rows of consecutive numbers: cut in two, filtered, mapped.
use Rattle.std.proofs.Common.{◌≡◌, ℕ, zero, suc, ◌+◌, ◌-◌, ◌<◌, ◌≤◌, Bool, true, false, List, [], ◌∷◌, ◌++◌, map, filter, refl, ap, ap₂, sym, ◌∙◌, arith, suc-add, add-zero}
use Rattle.std.proofs.Math.Nat.{zero-add}
use Rattle.std.specs.List.{range_with_len}

pub range_cut : (x m n : ℕ) → range_with_len x (m + n) ≡ range_with_len x m ++ range_with_len (x + m) n
range_cut x zero n = ap₂ range_with_len (sym (add-zero x)) (zero-add n)
range_cut x (suc m) n =
    let e : (x + 1) + m ≡ x + suc m = omega arith in
    ap (range_with_len x) (suc-add m n)
    ∙ ap (λ (l : List ℕ). x ∷ l)
    (range_cut (x + 1) m n ∙ ap (λ (y : ℕ). range_with_len (x + 1) m ++ range_with_len y n) e)

-- a test that all numbers of the row pass keeps the row, and one that none passes keeps nothing
pub filter_all : (f : ℕ → Bool) (x n : ℕ) → ((p : ℕ) → x ≤ p → p < x + n → f p ≡ true)
    → filter f (range_with_len x n) ≡ range_with_len x n
filter_all f x zero h = refl
filter_all f x (suc n) h =
    let here : f x ≡ true = h x (omega arith) (omega arith) in
    rw here (ap (λ (l : List ℕ). x ∷ l) (filter_all f (x + 1) n (λ p l u. h p (omega arith) (omega arith))))

pub filter_none : (f : ℕ → Bool) (x n : ℕ) → ((p : ℕ) → x ≤ p → p < x + n → f p ≡ false)
    → filter f (range_with_len x n) ≡ []
filter_none f x zero h = refl
filter_none f x (suc n) h =
    let here : f x ≡ false = h x (omega arith) (omega arith) in
    rw here (filter_none f (x + 1) n (λ p l u. h p (omega arith) (omega arith)))

-- a function that moves the row up by a number gives the row from there
pub map_moved : (g : ℕ → ℕ) (x y n : ℕ) → ((p : ℕ) → x ≤ p → p < x + n → g p ≡ y + (p - x))
    → map g (range_with_len x n) ≡ range_with_len y n
map_moved g x y zero h = refl
map_moved g x y (suc n) h =
    let here : g x ≡ y = h x (omega arith) (omega arith) ∙ omega arith in
    let rest : map g (range_with_len (x + 1) n) ≡ range_with_len (y + 1) n =
    map_moved g (x + 1) (y + 1) n (λ p l u. h p (omega arith) (omega arith) ∙ omega arith) in
    ap₂ (λ (v : ℕ) (l : List ℕ). v ∷ l) here rest
