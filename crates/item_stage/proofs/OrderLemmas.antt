-- Lists of numbers that ascend: there is one for the same numbers.
use Rattle.std.proofs.Common.{◌≡◌, ℕ, suc, ◌+◌, ◌<◌, ◌≤◌, ◌==◌, cond, List, [], ◌∷◌, length, get_or, refl, sym, ◌∙◌, ap, ⊎_elim, arith, true, false, Bool}
use Rattle.std.specs.Prelude.{nat_le, if◌then◌else◌, IsPermutation}
use Rattle.std.specs.List.{sum_by}
use Rattle.std.specs.List.Sorted.{IsNonDecreasing}
use Rattle.std.proofs.lemmas.Bool.{cases_lt}
use Rattle.std.proofs.lemmas.Bool.Decides.{nat_tests}
use Rattle.std.proofs.lemmas.List.Sums.{sum_by-cons}
use Rattle.std.proofs.lemmas.List.Sorted.{sum_by-IsPermutation}
use Rattle.reassembly_lane.specs.Numbers.{IsAscending}
use Rattle.item_stage.specs.Ordered.{put_in, ascending}

-- ---- how often a number stands in a list
abbrev one : ℕ → ℕ → ℕ
one x y = cond (x == y) 1 0

abbrev times : ℕ → List ℕ → ℕ
times x [] = 0
times x (y ∷ ys) = one x y + times x ys

times_is : (x : ℕ) (ys : List ℕ) → sum_by (one x) ys ≡ times x ys
times_is x [] = refl
times_is x (y ∷ ys) = sum_by-cons (one x) y ys ∙ ap (λ (n : ℕ). one x y + n) (times_is x ys)

times_put : (x n : ℕ) (ys : List ℕ) → times x (put_in n ys) ≡ one x n + times x ys
times_put x n [] = refl
times_put x n (y ∷ ys) = by_test (nat_le n y) (times_put x n ys)
  where
    by_test : (t : Bool) → times x (put_in n ys) ≡ one x n + times x ys →
        times x (if t then n ∷ y ∷ ys else y ∷ put_in n ys) ≡ one x n + (one x y + times x ys)
    by_test true h = refl
    by_test false h = omega (arith, h)

times_ascending : (x : ℕ) (ys : List ℕ) → times x (ascending ys) ≡ times x ys
times_ascending x [] = refl
times_ascending x (y ∷ ys) = times_put x y (ascending ys) ∙ ap (λ (n : ℕ). one x y + n) (times_ascending x ys)

-- ---- lists that ascend
abbrev AtLeast : ℕ → List ℕ → Type 0
AtLeast a [] = Unit {0}
AtLeast a (y ∷ ys) = (a ≤ y) × AtLeast a ys

abbrev Up : List ℕ → Type 0
Up [] = Unit {0}
Up (y ∷ ys) = AtLeast y ys × Up ys

at_least_from : (a : ℕ) (ys : List ℕ) → ((j : ℕ) → j < length ys → a ≤ get_or ys j 0) → AtLeast a ys
at_least_from a [] h = tt
at_least_from a (y ∷ ys) h = (h 0 (omega arith), at_least_from a ys (λ j l. h (suc j) (omega (arith, l))))

up_from : (ys : List ℕ) → IsNonDecreasing ys → Up ys
up_from [] h = tt
up_from (y ∷ ys) h = (
  at_least_from y ys (λ j l. h 0 (suc j) 0 (omega arith) (omega (arith, l))),
  up_from ys (λ i j d le l. h (suc i) (suc j) d (omega (arith, le)) (omega (arith, l))),
)

at_least_put : (a n : ℕ) (ys : List ℕ) → a ≤ n → AtLeast a ys → AtLeast a (put_in n ys)
at_least_put a n [] le h = (le, tt)
at_least_put a n (y ∷ ys) le h = by_test (nat_le n y) (at_least_put a n ys le h.1)
  where
    by_test : (t : Bool) → AtLeast a (put_in n ys) → AtLeast a (if t then n ∷ y ∷ ys else y ∷ put_in n ys)
    by_test true k = (le, h)
    by_test false k = (h.0, k)

at_least_less : (a b : ℕ) (ys : List ℕ) → a ≤ b → AtLeast b ys → AtLeast a ys
at_least_less a b [] le h = tt
at_least_less a b (y ∷ ys) le h = (omega (arith, le, h.0), at_least_less a b ys le h.1)

up_put : (n : ℕ) (ys : List ℕ) → Up ys → Up (put_in n ys)
up_put n [] h = (tt, tt)
up_put n (y ∷ ys) h = by_test (nat_le n y) refl (up_put n ys h.1)
  where
    by_test : (t : Bool) → nat_le n y ≡ t → Up (put_in n ys) → Up (if t then n ∷ y ∷ ys else y ∷ put_in n ys)
    by_test true e k =
        let le : n ≤ y = grind (arith, nat_tests) in
        ((le, at_least_less n y ys le h.0), h)
    by_test false e k =
        let le : y ≤ n = grind (arith, nat_tests) in
        (at_least_put y n ys le h.0, k)

up_ascending : (ys : List ℕ) → Up (ascending ys)
up_ascending [] = tt
up_ascending (y ∷ ys) = up_put y (ascending ys) (up_ascending ys)

-- ---- the same numbers in order are the same list
none_below : (x a : ℕ) (ys : List ℕ) → x < a → AtLeast a ys → times x ys ≡ 0
none_below x a [] l h = refl
none_below x a (y ∷ ys) l h =
    let other : one x y ≡ 0 = differ x y (omega (arith, l, h.0)) in
    omega (arith, other, none_below x a ys l h.1)
  where
    differ : (x y : ℕ) → x < y → one x y ≡ 0
    differ x y l = grind (arith, nat_tests)

itself : (x : ℕ) → one x x ≡ 1
itself x = grind (arith, nat_tests)

differs : (x y : ℕ) → x < y → one x y ≡ 0
differs x y l = grind (arith, nat_tests)

same_head : (a b : ℕ) (xs ys : List ℕ) → Up (a ∷ xs) → Up (b ∷ ys) → ((x : ℕ) → times x (a ∷ xs) ≡ times x (b ∷ ys)) → b ≤ a
same_head a b xs ys h k same =
    ⊎_elim
    (λ (l : a < b).
    let none : times a ys ≡ 0 = none_below a b ys l k.0 in
    omega (arith, itself a, differs a b l, none, same a))
    (λ (l : b ≤ a). l)
    (cases_lt a b)

pub same_order : (xs ys : List ℕ) → Up xs → Up ys → ((x : ℕ) → times x xs ≡ times x ys) → xs ≡ ys
same_order [] [] h k same = refl
same_order [] (b ∷ ys) h k same = absurd (omega (arith, itself b, same b))
same_order (a ∷ xs) [] h k same = absurd (omega (arith, itself a, same a))
same_order (a ∷ xs) (b ∷ ys) h k same =
    let equal : a ≡ b = omega (arith, same_head a b xs ys h k same, same_head b a ys xs k h (λ x. sym (same x))) in
    let rest : xs ≡ ys = same_order xs ys h.1 k.1 (λ x. let e : one x a ≡ one x b = ap (λ (n : ℕ). one x n) equal in omega (arith, same x, e)) in
    ap (λ (n : ℕ). n ∷ xs) equal ∙ ap (λ (l : List ℕ). b ∷ l) rest

-- what is sorted is the numbers in order
pub ascending_is : (numbers sorted : List ℕ) → IsPermutation numbers sorted → IsNonDecreasing sorted → sorted ≡ ascending numbers
ascending_is numbers sorted moved up =
    same_order sorted (ascending numbers) (up_from sorted up) (up_ascending numbers)
    (λ x. sym (times_is x sorted) ∙ (sum_by-IsPermutation (one x) numbers sorted moved ∙ (times_is x numbers ∙ sym (times_ascending x numbers))))

pub ascending_only : (numbers sorted : List ℕ) → IsAscending numbers sorted → sorted ≡ ascending numbers
ascending_only numbers sorted h = ascending_is numbers sorted h.same h.ascending

-- numbers in another order ascend alike
pub ascending_same : (numbers others : List ℕ) → IsPermutation numbers others → ascending others ≡ ascending numbers
ascending_same numbers others moved =
    same_order (ascending others) (ascending numbers) (up_ascending others) (up_ascending numbers)
    (λ x. times_ascending x others ∙ (sym (times_is x others) ∙ (sum_by-IsPermutation (one x) numbers others moved ∙ (times_is x numbers ∙ sym (times_ascending x numbers)))))
