-- How many of a list pass a test.
use Rattle.std.proofs.Common.{◌≡◌, ℕ, zero, suc, ◌+◌, ◌<◌, ◌≤◌, Bool, true, false, cond, List, [], ◌∷◌, length, get_or, map, Contains, refl, ap, inl, inr, arith}
use Rattle.std.specs.List.{count_by}
use Rattle.std.proofs.lemmas.List.Sums.{sum_by-cons}
use Rattle.std.proofs.lemmas.Bool.{cases_Bool}
use Rattle.binding_rules.specs.declared.binding.Binding.{Binding}
use Rattle.aftr_base.proofs.MemberLemmas.{contains_after, contains_front}
use Rattle.table_words.specs.Bounds.{greatest}

pub count_cons : {X : Type 0} (test : X → Bool) (x : X) (xs : List X) → count_by test (x ∷ xs) ≡ cond (test x) 1 0 + count_by test xs
count_cons test x xs = sum_by-cons (λ y. cond (test y) 1 0) x xs

worth : Bool → ℕ
worth b = cond b 1 0

worth_true : (b : Bool) → b ≡ true → worth b ≡ 1
unfolding worth
worth_true b h = rw h refl

worth_false : (b : Bool) → b ≡ false → worth b ≡ 0
unfolding worth
worth_false b h = rw h refl

worth_small : (b : Bool) → worth b ≤ 1
unfolding worth
worth_small true = omega arith
worth_small false = omega arith

front : {X : Type 0} (test : X → Bool) (x : X) (xs : List X) → count_by test (x ∷ xs) ≡ worth (test x) + count_by test xs
unfolding worth
front test x xs = count_cons test x xs

module _ {X : Type 0} (test : X → Bool) where
  -- where all from a place on fail, at most the ones before it pass
  pub count_at_most : (xs : List X) (d : X) (i : ℕ) → ((j : ℕ) → i ≤ j → j < length xs → test (get_or xs j d) ≡ false)
      → count_by test xs ≤ i
  count_at_most [] d i h = omega arith
  count_at_most (x ∷ xs) d zero h =
      let here : test x ≡ false = h 0 (omega arith) (omega arith) in
      let rest : count_by test xs ≤ 0 = count_at_most xs d zero (λ j m l. h (suc j) (omega arith) (omega arith)) in
      let e = front test x xs in
      let w = worth_false (test x) here in
      omega (arith, e, w, rest)
  count_at_most (x ∷ xs) d (suc i) h =
      let rest : count_by test xs ≤ i = count_at_most xs d i (λ j m l. h (suc j) (omega arith) (omega arith)) in
      let e = front test x xs in
      let w = worth_small (test x) in
      omega (arith, e, w, rest)

  -- where all before a place pass, at least as many pass
  pub count_at_least : (xs : List X) (d : X) (i : ℕ) → i ≤ length xs → ((j : ℕ) → j < i → test (get_or xs j d) ≡ true)
      → i ≤ count_by test xs
  count_at_least xs d zero l h = omega arith
  count_at_least [] d (suc i) l h = absurd (omega arith)
  count_at_least (x ∷ xs) d (suc i) l h =
      let here : test x ≡ true = h 0 (omega arith) in
      let rest : i ≤ count_by test xs = count_at_least xs d i (omega arith) (λ j m. h (suc j) (omega arith)) in
      let e = front test x xs in
      let w = worth_true (test x) here in
      omega (arith, e, w, rest)

  count_one : (xs : List X) (d : X) (i : ℕ) → i < length xs → test (get_or xs i d) ≡ true → 1 ≤ count_by test xs
  count_one [] d i l h = absurd (omega arith)
  count_one (x ∷ xs) d zero l h =
      let e = front test x xs in
      let w = worth_true (test x) h in
      omega (arith, e, w)
  count_one (x ∷ xs) d (suc i) l h =
      let rest : 1 ≤ count_by test xs = count_one xs d i (omega arith) h in
      let e = front test x xs in
      omega (arith, e, rest)

  -- two places that pass
  pub count_two : (xs : List X) (d : X) (i j : ℕ) → i < j → j < length xs → test (get_or xs i d) ≡ true → test (get_or xs j d) ≡ true
      → 2 ≤ count_by test xs
  count_two [] d i j l m h k = absurd (omega arith)
  count_two (x ∷ xs) d i zero l m h k = absurd (omega arith)
  count_two (x ∷ xs) d zero (suc j) l m h k =
      let rest : 1 ≤ count_by test xs = count_one xs d j (omega arith) k in
      let e = front test x xs in
      let w = worth_true (test x) h in
      omega (arith, e, w, rest)
  count_two (x ∷ xs) d (suc i) (suc j) l m h k =
      let rest : 2 ≤ count_by test xs = count_two xs d i j (omega arith) (omega arith) h k in
      let e = front test x xs in
      omega (arith, e, rest)

pub count_map : {X Y : Type 0} (f : X → Y) (test : Y → Bool) (xs : List X) → count_by test (map f xs) ≡ count_by (λ x. test (f x)) xs
count_map f test [] = refl
count_map f test (x ∷ xs) =
    let e = front test (f x) (map f xs) in
    let k = front (λ y. test (f y)) x xs in
    let rest = count_map f test xs in
    omega (arith, e, k, rest)

pub count_weaker : {X : Type 0} (p q : X → Bool) (xs : List X) → ((x : X) → Contains xs x → p x ≡ true → q x ≡ true)
    → count_by p xs ≤ count_by q xs
count_weaker p q [] h = omega arith
count_weaker p q (x ∷ xs) h =
    let rest : count_by p xs ≤ count_by q xs = count_weaker p q xs (λ y m. h y (contains_after x xs y m)) in
    let e = front p x xs in
    let k = front q x xs in
    elim (cases_Bool (p x)) [
      | inl passes ↦ (let u = worth_true (p x) passes in
          let v = worth_true (q x) (h x (contains_front x xs) passes) in omega (arith, e, k, rest, u, v))
      | inr fails ↦ (let u = worth_false (p x) fails in omega (arith, e, k, rest, u))
    ]

-- a test that is one of two others
pub count_split : {X : Type 0} (p q r : X → Bool) (xs : List X) → ((x : X) → cond (p x) 1 0 ≤ cond (q x) 1 0 + cond (r x) 1 0)
    → count_by p xs ≤ count_by q xs + count_by r xs
count_split p q r [] h = omega arith
count_split p q r (x ∷ xs) h = omega (arith, h x, count_cons p x xs, count_cons q x xs, count_cons r x xs, count_split p q r xs h)

pub le_greatest : (value : Binding → ℕ) (xs : List Binding) (x : Binding) → Contains xs x → value x ≤ greatest value xs
le_greatest value [] x h = absurd (omega (arith, h.1))
le_greatest value (y ∷ xs) x (zero, l, e) = let f : value y ≡ value x = ap value e in omega (arith, f)
le_greatest value (y ∷ xs) x (suc k, l, e) =
    let rest : value x ≤ greatest value xs = le_greatest value xs x (k, omega arith, e) in
    omega (arith, rest)

pub greatest_le : (value : Binding → ℕ) (n : ℕ) (xs : List Binding) → ((x : Binding) → Contains xs x → value x ≤ n) → greatest value xs ≤ n
greatest_le value n [] h = omega arith
greatest_le value n (x ∷ xs) h =
    let here : value x ≤ n = h x (contains_front x xs) in
    let rest : greatest value xs ≤ n = greatest_le value n xs (λ y m. h y (contains_after x xs y m)) in
    omega (arith, here, rest)
