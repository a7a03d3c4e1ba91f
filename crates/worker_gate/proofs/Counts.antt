-- How often a number is drawn.
use Rattle.std.proofs.Common.{◌≡◌, ◌≢◌, ℕ, suc, ◌+◌, ◌<◌, ◌≤◌, ◌==◌, Bool, cond, List, [], ◌∷◌, ◌++◌, length, map, get_or, count_by, ap, refl, arith, ne_eqb, lt-ltb, le-ltb}
use Rattle.std.proofs.lemmas.List.Sums.{sum_by-append, sum_by-cons}
use Rattle.swap_core.specs.Sound.{once_below}
use Rattle.worker_gate.specs.declared.outcomes.Outcome.{Outcome}
use Rattle.worker_gate.specs.Crews.{no_outcome}
use Rattle.worker_gate.specs.Outcomes.{draw_of}

-- these are draws of the number
abbrev pub drawn_as : ℕ → ℕ × ℕ → Bool
drawn_as n d = d.0 == n

pub count_on : (n : ℕ) (xs ys : List (ℕ × ℕ)) → count_by (drawn_as n) (xs ++ ys) ≡ count_by (drawn_as n) xs + count_by (drawn_as n) ys
count_on n xs ys = sum_by-append (λ x. cond (drawn_as n x) 1 0) xs ys

pub count_none : (n : ℕ) (xs : List (ℕ × ℕ)) → ((k : ℕ) (d : ℕ × ℕ) → k < length xs → (get_or xs k d).0 ≢ n) → count_by (drawn_as n) xs ≡ 0
count_none n [] h = refl
count_none n (x ∷ xs) h =
    let this : (let k : ℕ = cond (drawn_as n x) 1 0 in k) ≡ 0 =
    ap (λ (t : Bool). let k : ℕ = cond t 1 0 in k) (ne_eqb x.0 n (h 0 x (omega arith))) in
    let rest : count_by (drawn_as n) xs ≡ 0 = count_none n xs (λ k d less. h (suc k) d (omega (arith, less))) in
    let sum : count_by (drawn_as n) (x ∷ xs) ≡ (let k : ℕ = cond (drawn_as n x) 1 0 in k) + count_by (drawn_as n) xs =
    sum_by-cons (λ y. cond (drawn_as n y) 1 0) x xs in
    omega (arith, sum, this, rest)

-- none of the draws of these outcomes is of the number
pub count_no_outcome : (n : ℕ) (outs : List Outcome) → ((m : ℕ) → m < length outs → (get_or outs m no_outcome).number ≢ n)
    → count_by (drawn_as n) (map draw_of outs) ≡ 0
count_no_outcome n [] h = refl
count_no_outcome n (o ∷ os) h =
    let this : (let k : ℕ = cond (drawn_as n (draw_of o)) 1 0 in k) ≡ 0 =
    ap (λ (t : Bool). let k : ℕ = cond t 1 0 in k) (ne_eqb o.number n (h 0 (omega arith))) in
    let rest : count_by (drawn_as n) (map draw_of os) ≡ 0 = count_no_outcome n os (λ m less. h (suc m) (omega (arith, less))) in
    let sum : count_by (drawn_as n) (map draw_of (o ∷ os)) ≡ (let k : ℕ = cond (drawn_as n (draw_of o)) 1 0 in k) + count_by (drawn_as n) (map draw_of os) =
    sum_by-cons (λ y. cond (drawn_as n y) 1 0) (draw_of o) (map draw_of os) in
    omega (arith, sum, this, rest)

pub once_yes : (n records : ℕ) → n < records → once_below n records ≡ 1
once_yes n records less = ap (λ (t : Bool). let k : ℕ = cond t 1 0 in k) (lt-ltb n records less)

pub once_no : (n records : ℕ) → records ≤ n → once_below n records ≡ 0
once_no n records less = ap (λ (t : Bool). let k : ℕ = cond t 1 0 in k) (le-ltb n records less)
