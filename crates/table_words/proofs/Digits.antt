-- How many numbers pass a test, and the binary digits of a number.
use Rattle.std.proofs.Common.{◌≡◌, ℕ, zero, suc, ◌+◌, ◌*◌, ◌^◌, ◌<◌, ◌≤◌, Bool, true, false, cond, leb, refl, inl, inr, arith}
use Rattle.std.proofs.Math.Pow.{pow_mono}
use Rattle.std.proofs.lemmas.Bool.{cases_Bool, cases_lt, leb-false, leb-true, le-leb}
use Rattle.table_words.specs.Bounds.{count_below, binary_digits}

one_if : (b : Bool) → cond b 1 0 ≤ 1
one_if true = omega arith
one_if false = omega arith

pub count_below-le : (test : ℕ → Bool) (n : ℕ) → count_below test n ≤ n
count_below-le test zero = omega arith
count_below-le test (suc n) = omega (arith, count_below-le test n, one_if (test n))

pub count_below_mono : (test : ℕ → Bool) (m n : ℕ) → m ≤ n → count_below test m ≤ count_below test n
count_below_mono test m zero l = let e : m ≡ 0 = omega arith in rw e (omega arith)
count_below_mono test m (suc n) l = elim (cases_lt m (suc n)) [
  | inl less ↦ (let h : count_below test m ≤ count_below test n = count_below_mono test m n (omega arith) in omega (arith, h))
  | inr more ↦ (let e : m ≡ suc n = omega arith in rw e (omega arith))
]

-- one more that passes
pub count_below_more : (test : ℕ → Bool) (m c : ℕ) → test c ≡ true → m ≤ c → count_below test m + 1 ≤ count_below test (suc c)
count_below_more test m c h l = rw h (omega (arith, count_below_mono test m c l))

count_below_all : (test : ℕ → Bool) (n : ℕ) → ((k : ℕ) → k < n → test k ≡ true) → count_below test n ≡ n
count_below_all test zero h = refl
count_below_all test (suc n) h =
    let here : test n ≡ true = h n (omega arith) in
    let before : count_below test n ≡ n = count_below_all test n (λ k l. h k (omega arith)) in
    rw (here, before) (omega arith)

-- where all that pass are one number, at most one passes
module _ (test : ℕ → Bool) (one : (j k : ℕ) → test j ≡ true → test k ≡ true → j ≡ k) where
  none_below : (n m : ℕ) → test n ≡ true → m ≤ n → count_below test m ≤ 0
  none_below n zero passes l = omega arith
  none_below n (suc m) passes l = elim (cases_Bool (test m)) [
    | inl too ↦ absurd (let same : m ≡ n = one m n too passes in omega (arith, same, l))
    | inr fails ↦ rw fails (let rest : count_below test m ≤ 0 = none_below n m passes (omega arith) in omega (arith, rest))
  ]

  pub count_below_one : (n : ℕ) → count_below test n ≤ 1
  count_below_one zero = omega arith
  count_below_one (suc n) = elim (cases_Bool (test n)) [
    | inl passes ↦ rw passes (let none : count_below test n ≤ 0 = none_below n n passes (omega arith) in omega (arith, none))
    | inr fails ↦ rw fails (let rest : count_below test n ≤ 1 = count_below_one n in omega (arith, rest))
  ]

-- where a test that passes some number passes each below it, the count is the first number that fails
pub count_below_ends : (test : ℕ → Bool) → ((j k : ℕ) → j ≤ k → test k ≡ true → test j ≡ true) → (n : ℕ)
    → count_below test n < n → test (count_below test n) ≡ false
count_below_ends test down zero l = absurd (omega arith)
count_below_ends test down (suc n) l = elim (cases_Bool (test n)) [
  | inl passes ↦ absurd (let e : count_below test n ≡ n = count_below_all test n (λ k m. down k n (omega arith) passes) in
      let f : count_below test n + cond (test n) 1 0 ≡ n + 1 = rw (passes, e) refl in omega (arith, f, l))
  | inr fails ↦ rw fails (let none : (count_below test n + 0 ≡ count_below test n) = omega arith in
      rw none (elim (cases_lt (count_below test n) n) [
        | inl less ↦ count_below_ends test down n less
        | inr more ↦ (let e : count_below test n ≡ n = omega (arith, count_below-le test n) in rw e fails)
      ]))
]

n-lt-pow : (n : ℕ) → n < 2 ^ n
n-lt-pow zero = omega arith
n-lt-pow (suc n) = let h : n < 2 ^ n = n-lt-pow n in omega (arith, h)

pub below_digits : (n : ℕ) → n < 2 ^ binary_digits n
below_digits n = elim (cases_lt (binary_digits n) n) [
  | inl less ↦ leb-false _ _ (count_below_ends (λ k. leb (2 ^ k) n) down n less)
  | inr more ↦ (let h : 2 ^ n ≤ 2 ^ binary_digits n = pow_mono more in omega (arith, n-lt-pow n, h))
]
  where
    down : (j k : ℕ) → j ≤ k → leb (2 ^ k) n ≡ true → leb (2 ^ j) n ≡ true
    down j k l h =
        let p : 2 ^ j ≤ 2 ^ k = pow_mono l in
        let q : 2 ^ k ≤ n = leb-true _ _ h in
        le-leb _ _ (omega (arith, p, q))

-- as many halvings as the width has digits, at most
pub few_halvings : (c m d : ℕ) → 2 ^ c ≤ 2 * m + 1 → m < 2 ^ d → c ≤ d
few_halvings c m d h l = elim (cases_lt d c) [
  | inl more ↦ absurd (let p : 2 ^ (suc d) ≤ 2 ^ c = pow_mono more in omega (arith, p, h, l))
  | inr less ↦ less
]
