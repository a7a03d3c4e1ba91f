-- How many bindings of an address stand below a place, and what is left of it on a walk down its places.
use Rattle.std.proofs.Common.{◌≡◌, ℕ, zero, suc, ◌+◌, ◌*◌, ◌<◌, ◌≤◌, ◌==◌, Bool, true, false, ◌||◌, if◌then◌else◌, Option, Some, None, List, [], ◌∷◌, length, take, drop, refl, sym, ap, ◌∙◌, arith}
use Rattle.std.proofs.lemmas.Bool.{eqb-true, eq-eqb}
use Rattle.binding_rules.specs.declared.binding.Binding.{Binding}
use Rattle.binding_rules.specs.Scans.{IsAtAddress, IsLast, IsLinked, IsNearest, ends_within, slot}
use Rattle.binding_rules.specs.Steps.{addresses, count_of, has_some}
use Rattle.binding_rules.proofs.Links.{IsOf, near_of, no_binding, of_within, reach, read}
use Rattle.std.proofs.lemmas.List.{drop_more}

-- how many bindings of the address stand below the place
abbrev pub below : List Binding → ℕ → ℕ → ℕ
below bs a p = count_of a (take p bs)

-- how many are still to come on the way down
abbrev pub remaining : List Binding → ℕ → Option ℕ → ℕ
remaining bs a o = below bs a (reach o)

one_by : (is_same : Bool) (n : ℕ) → is_same ≡ true → (if is_same then 1 else 0) + n ≡ 1 + n
one_by true n is = refl
one_by false n is = absurd cc

none_by : (is_same : Bool) (n m : ℕ) → (is_same ≡ true → ⊥) → n ≡ m → (if is_same then 1 else 0) + n ≡ m
none_by true n m never is = absurd (never refl)
none_by false n m never is = omega (arith, is)

below_more : (bs : List Binding) (a p : ℕ) → IsAtAddress bs a p → below bs a (suc p) ≡ 1 + below bs a p
below_more [] a p h = absurd cc
below_more (x ∷ xs) a zero h =
    let same : x ≡ h.0 = cc in
    one_by (x.v4.0 == a) 0 (eq-eqb x.v4.0 a (ap (λ (y : Binding). y.v4.0) same ∙ h.2))
below_more (x ∷ xs) a (suc p) h = let more : below xs a (suc p) ≡ 1 + below xs a p = below_more xs a p (h.0, h.1, h.2) in omega (arith, more)

below_same : (bs : List Binding) (a q p : ℕ) → q ≤ p → ((n : ℕ) → q ≤ n → n < p → IsAtAddress bs a n → ⊥) → below bs a p ≡ below bs a q
below_same [] a zero zero up none = refl
below_same [] a zero (suc p) up none = refl
below_same [] a (suc q) zero up none = refl
below_same [] a (suc q) (suc p) up none = refl
below_same (x ∷ xs) a zero zero up none = refl
below_same (x ∷ xs) a (suc q) zero up none = absurd (omega (arith, up))
below_same (x ∷ xs) a zero (suc p) up none =
    none_by (x.v4.0 == a) (below xs a p) 0 (λ is. none 0 (omega arith) (omega arith) (x, refl, eqb-true x.v4.0 a is))
    (below_same xs a 0 p (omega arith) (λ n l m h. none (suc n) (omega arith) (omega (arith, m)) h))
below_same (x ∷ xs) a (suc q) (suc p) up none =
    ap (λ n. (if x.v4.0 == a then 1 else 0) + n) (below_same xs a q p (omega (arith, up)) (λ n l m h. none (suc n) (omega (arith, l)) (omega (arith, m)) h))

below_most : (bs : List Binding) (a p : ℕ) → below bs a p ≤ count_of a bs
below_most [] a zero = omega arith
below_most [] a (suc p) = omega arith
below_most (x ∷ xs) a zero = omega arith
below_most (x ∷ xs) a (suc p) = omega (arith, below_most xs a p)

pub all_to_come : (bs : List Binding) (a : ℕ) (o : Option ℕ) → remaining bs a o ≤ count_of a bs
all_to_come bs a o = below_most bs a (reach o)

-- a place on the way down is one less
pub step_down : (bs : List Binding) (previous : List (Option ℕ)) (a p : ℕ) → IsLinked bs previous → IsAtAddress bs a p → remaining bs a (Some p) ≡ 1 + remaining bs a (slot previous p)
step_down bs previous a p linked h =
    let same : suc p ≡ p + 1 = omega arith in
    sym (ap (below bs a) same) ∙ below_more bs a p h ∙ ap (λ n. 1 + n) (by_near (slot previous p) (near_of bs previous a p linked h))
  where
    by_near : (o : Option ℕ) → IsNearest bs a p o → below bs a p ≡ remaining bs a o
    by_near None near = below_same bs a 0 p (omega arith) (λ n l m at. near n m at)
    by_near (Some q) near = below_same bs a (q + 1) p (omega (arith, near.0)) (λ n l m at. near.1.1 n (omega (arith, l)) m at)

-- the same where the place is known by an equation
pub step_at : (bs : List Binding) (previous : List (Option ℕ)) (a p : ℕ) (o : Option ℕ) → IsLinked bs previous → IsAtAddress bs a p → o ≡ Some p →
    remaining bs a o ≡ 1 + remaining bs a (slot previous p)
step_at bs previous a p o linked h is = ap (remaining bs a) is ∙ step_down bs previous a p linked h

-- a walk that ends within so many places has no more
pub few_to_come : (bs : List Binding) (previous : List (Option ℕ)) (a : ℕ) → IsLinked bs previous → (most : ℕ) (o : Option ℕ) → IsOf bs a o → ends_within previous o most ≡ true → remaining bs a o ≤ most
few_to_come bs previous a linked most None here ends = omega arith
few_to_come bs previous a linked zero (Some p) here ends = absurd cc
few_to_come bs previous a linked (suc most) (Some p) here ends =
    let next : remaining bs a (slot previous p) ≤ most = few_to_come bs previous a linked most (slot previous p) (near_is (slot previous p) (near_of bs previous a p linked here)) ends in
    omega (arith, next, step_down bs previous a p linked here)
  where
    near_is : (o : Option ℕ) → IsNearest bs a p o → IsOf bs a o
    near_is None near = tt
    near_is (Some q) near = near.1.0

-- from the last place all of them are to come
pub from_last : (bs : List Binding) (a last : ℕ) → IsLast bs a last → count_of a bs ≡ remaining bs a (Some last)
from_last bs a last h =
    whole bs a (length bs) refl
    ∙ below_same bs a (last + 1) (length bs) (omega (arith, of_within bs a last h.here)) (λ n l m at. h.none_after n (omega (arith, l)) at)
  where
    whole : (bs : List Binding) (a n : ℕ) → n ≡ length bs → count_of a bs ≡ below bs a n
    whole [] a zero is = refl
    whole [] a (suc n) is = refl
    whole (x ∷ xs) a zero is = absurd (omega (arith, is))
    whole (x ∷ xs) a (suc n) is = ap (λ k. (if x.v4.0 == a then 1 else 0) + k) (whole xs a n (omega (arith, is)))

pub few_bindings : (bs : List Binding) (previous : List (Option ℕ)) (a last most : ℕ) → IsLinked bs previous → IsLast bs a last → ends_within previous (Some last) most ≡ true → count_of a bs ≤ most
few_bindings bs previous a last most linked h ends = omega (arith, from_last bs a last h, few_to_come bs previous a linked most (Some last) h.here ends)

-- how many bindings have an address that is still to come
abbrev pub left : List Binding → List Binding → ℕ
left rest [] = 0
left rest (x ∷ xs) = (if has_some x.v4.0 rest then 1 else 0) + left rest xs

pub left_most : (rest xs : List Binding) → left rest xs ≤ length xs
left_most rest [] = omega arith
left_most rest (x ∷ xs) = by_test (has_some x.v4.0 rest) (left_most rest xs)
  where
    by_test : (b : Bool) → left rest xs ≤ length xs → (if b then 1 else 0) + left rest xs ≤ suc (length xs)
    by_test true most = omega (arith, most)
    by_test false most = omega (arith, most)

-- where an address comes no more, its bindings are counted off
pub left_last : (y : Binding) (rest xs : List Binding) → has_some y.v4.0 rest ≡ false → count_of y.v4.0 xs + left rest xs ≤ left (y ∷ rest) xs
left_last y rest [] none = omega arith
left_last y rest (x ∷ xs) none = by_test (x.v4.0 == y.v4.0) (y.v4.0 == x.v4.0) (has_some x.v4.0 rest) refl refl refl (left_last y rest xs none)
  where
    by_test : (a b c : Bool) → (x.v4.0 == y.v4.0) ≡ a → (y.v4.0 == x.v4.0) ≡ b → has_some x.v4.0 rest ≡ c → count_of y.v4.0 xs + left rest xs ≤ left (y ∷ rest) xs →
        ((if a then 1 else 0) + count_of y.v4.0 xs) + ((if c then 1 else 0) + left rest xs) ≤ (if b || c then 1 else 0) + left (y ∷ rest) xs
    by_test true true true e f g more = let no : true ≡ false = sym g ∙ (ap (λ n. has_some n rest) (eqb-true x.v4.0 y.v4.0 e) ∙ none) in absurd cc
    by_test true true false e f g more = omega (arith, more)
    by_test true false c e f g more = let no : true ≡ false = sym (eq-eqb y.v4.0 x.v4.0 (sym (eqb-true x.v4.0 y.v4.0 e))) ∙ f in absurd cc
    by_test false true c e f g more = let no : true ≡ false = sym (eq-eqb x.v4.0 y.v4.0 (sym (eqb-true y.v4.0 x.v4.0 f))) ∙ e in absurd cc
    by_test false false true e f g more = omega (arith, more)
    by_test false false false e f g more = omega (arith, more)

pub left_more : (y : Binding) (rest xs : List Binding) → left rest xs ≤ left (y ∷ rest) xs
left_more y rest [] = omega arith
left_more y rest (x ∷ xs) = by_test (y.v4.0 == x.v4.0) (has_some x.v4.0 rest) (left_more y rest xs)
  where
    by_test : (b c : Bool) → left rest xs ≤ left (y ∷ rest) xs → (if c then 1 else 0) + left rest xs ≤ (if b || c then 1 else 0) + left (y ∷ rest) xs
    by_test true true more = omega (arith, more)
    by_test true false more = omega (arith, more)
    by_test false true more = omega (arith, more)
    by_test false false more = omega (arith, more)

-- behind the last place of an address it comes no more
has_no : (bs : List Binding) (a : ℕ) → ((n : ℕ) → IsAtAddress bs a n → ⊥) → has_some a bs ≡ false
has_no [] a none = refl
has_no (x ∷ xs) a none = by_test (x.v4.0 == a) refl (has_no xs a (λ n h. none (suc n) h))
  where
    by_test : (b : Bool) → (x.v4.0 == a) ≡ b → has_some a xs ≡ false → (b || has_some a xs) ≡ false
    by_test true e more = absurd (none 0 (x, refl, eqb-true x.v4.0 a e))
    by_test false e more = more

pub none_behind : (bs : List Binding) (a i : ℕ) → ((n : ℕ) → i ≤ n → IsAtAddress bs a n → ⊥) → has_some a (drop i bs) ≡ false
none_behind bs a zero none = has_no bs a (λ n h. none n (omega arith) h)
none_behind [] a (suc i) none = refl
none_behind (x ∷ xs) a (suc i) none = none_behind xs a i (λ n l h. none (suc n) (omega (arith, l)) h)

-- so many steps are let through from here on
abbrev pub allowed : List Binding → ℕ → ℕ
allowed bs i = 400000 * addresses (drop i bs) + 10 * left (drop i bs) bs

pub allowed_first : (bs : List Binding) → allowed bs 0 ≤ 400000 * addresses bs + 10 * length bs
allowed_first bs = omega (arith, left_most bs bs)

abbrev address_count : Bool → ℕ
address_count some = if some then 0 else 1

last_by : (some : Bool) (n k l m : ℕ) → some ≡ false → k + l ≤ m → 400000 * n + 10 * l + (400000 + 10 * k) ≤ 400000 * (address_count some + n) + 10 * m
last_by true n k l m e less = absurd cc
last_by false n k l m e less = omega (arith, less)

other_by : (some : Bool) (n l m : ℕ) → l ≤ m → 400000 * n + 10 * l ≤ 400000 * (address_count some + n) + 10 * m
other_by true n l m less = omega (arith, less)
other_by false n l m less = omega (arith, less)

-- the binding at a place stands in front of those behind it
pub cut_at : (bs : List Binding) (i : ℕ) → i < length bs → drop i bs ≡ read bs i ∷ drop (i + 1) bs
cut_at bs i within = drop_more bs i no_binding within

pub allowed_last : (bs : List Binding) (i : ℕ) (y : Binding) → drop i bs ≡ y ∷ drop (i + 1) bs → IsLast bs y.v4.0 i → allowed bs (i + 1) + (400000 + 10 * count_of y.v4.0 bs) ≤ allowed bs i
allowed_last bs i y cut last =
    let rest : List Binding = drop (i + 1) bs in
    let none : has_some y.v4.0 rest ≡ false = none_behind bs y.v4.0 (i + 1) (λ n l h. last.none_after n (omega (arith, l)) h) in
    rw cut (last_by (has_some y.v4.0 rest) (addresses rest) (count_of y.v4.0 bs) (left rest bs) (left (y ∷ rest) bs) none (left_last y rest bs none))

pub allowed_other : (bs : List Binding) (i : ℕ) (y : Binding) → drop i bs ≡ y ∷ drop (i + 1) bs → allowed bs (i + 1) ≤ allowed bs i
allowed_other bs i y cut =
    let rest : List Binding = drop (i + 1) bs in
    rw cut (other_by (has_some y.v4.0 rest) (addresses rest) (left rest bs) (left (y ∷ rest) bs) (left_more y rest bs))
