-- A search that halves what is left, and a count of reads over several calls.
use Rattle.std.proofs.Common.{◌≡◌, ◌≢◌, ℕ, suc, ◌+◌, ◌-◌, ◌*◌, ◌^◌, ◌<◌, ◌≤◌, List, Option, Some, None, refl, ap, ◌∙◌, inl, inr, arith, mul_assoc, mul_comm, pow-add}
use Rattle.std.proofs.lemmas.Bool.{cases_lt, cases_eq}
use Rattle.std.proofs.Math.Pow.{pow_mono}
use Rattle.std.proofs.lemmas.Nat.{mul-le}
use Rattle.table_words.specs.Reads.{read_more}
use Rattle.table_words.specs.Spans.{first_at, IsEntryRange}

pub record IsHalved (s s0 w n : ℕ) : Type 0 where
  pub halved : 2 ^ (s - s0) * w ≤ n
  pub cost : 2 ^ (s - s0) ≤ 2 * n + 1

twice_more : (p w v n : ℕ) → 1 ≤ w → 2 * v ≤ w → p * w ≤ n → ((2 * p) * v ≤ n) × (2 * p ≤ 2 * n + 1)
twice_more p w v n some half h =
    let moved : (2 * p) * v ≡ p * (2 * v) = ap (λ (k : ℕ). k * v) (mul_comm 2 p) ∙ mul_assoc p 2 v in
    let product : p * (2 * v) ≤ p * w = mul-le p (2 * v) p w (omega arith) half in
    let least : p * 1 ≤ p * w = mul-le p 1 p w (omega arith) some in
    (omega (arith, moved, product, h), omega (arith, least, h))

pub halved_more : (s s0 w v n : ℕ) → s0 ≤ s → 1 ≤ w → 2 * v ≤ w → 2 ^ (s - s0) * w ≤ n → IsHalved (s + 1) s0 v n
halved_more s s0 w v n later some half h =
    let e : s + 1 - s0 ≡ suc (s - s0) = omega arith in
    let t = twice_more (2 ^ (s - s0)) w v n some half h in
    let p : 2 ^ suc (s - s0) ≡ 2 * 2 ^ (s - s0) = omega arith in
    record { halved = rw (e, p) t.0; cost = rw (e, p) t.1 }

-- the same where the first probe is anywhere, and does not halve
pub probed_more : (s s0 w v n : ℕ) → s0 ≤ s → 1 ≤ w → v ≤ w → (s ≢ s0 → 2 * v ≤ w) → 2 ^ (s - (s0 + 1)) * w ≤ n
    → IsHalved (s + 1) (s0 + 1) v n
probed_more s s0 w v n later some most half h = elim (cases_eq s s0) [
  | inl none ↦
      (let before : s - (s0 + 1) ≡ 0 = omega (arith, none) in
      let after : s + 1 - (s0 + 1) ≡ 0 = omega (arith, none) in
      let whole : 2 ^ 0 * w ≤ n = rw before at h in
      record { halved = rw after (omega (arith, whole, most)); cost = rw after (omega (arith)) })
  | inr probed ↦ halved_more s (s0 + 1) w v n (omega (arith, later, probed)) some (half probed) h
]

-- what a search has left, where it halved so often
pub narrowed : (s w n d : ℕ) → 1 ≤ w → 2 ^ s * w ≤ n → n < 2 ^ d → (s ≤ d) × (w < 2 ^ (d - s))
narrowed s w n d some halved few = (often, less)
  where
    often : s ≤ d
    often = elim (cases_lt d s) [
      | inl more ↦ absurd (
          let powers : 2 ^ d ≤ 2 ^ s = pow_mono (omega (arith, more)) in
          let product : 2 ^ s * 1 ≤ 2 ^ s * w = mul-le (2 ^ s) 1 (2 ^ s) w (omega arith) some in
          omega (arith, powers, product, halved, few))
      | inr fewer ↦ fewer
    ]

    less : w < 2 ^ (d - s)
    less = elim (cases_lt w (2 ^ (d - s))) [
      | inl small ↦ small
      | inr more ↦ absurd (
          let product : 2 ^ s * 2 ^ (d - s) ≤ 2 ^ s * w = mul-le (2 ^ s) (2 ^ (d - s)) (2 ^ s) w (omega arith) more in
          let joined : 2 ^ (s + (d - s)) ≡ 2 ^ s * 2 ^ (d - s) = pow-add 2 s (d - s) in
          let whole : 2 ^ (s + (d - s)) ≡ 2 ^ d = ap (λ (n : ℕ). 2 ^ n) (sum s d often) in
          omega (arith, product, joined, whole, halved, few))
    ]
      where
        sum : (s d : ℕ) → s ≤ d → s + (d - s) ≡ d
        sum s d l = omega (arith, l)

pub reads_on : (r0 r1 r2 : Option ℕ) (m k n : ℕ) → m + k ≡ n → r1 ≡ read_more r0 m → r2 ≡ read_more r1 k → r2 ≡ read_more r0 n
reads_on r0 r1 r2 m k n e f g = g ∙ ap (λ (r : Option ℕ). read_more r k) f ∙ joined r0
  where
    joined : (r : Option ℕ) → read_more (read_more r m) k ≡ read_more r n
    joined None = refl
    joined (Some j) = ap Some (omega (arith, e))

module _ (words : List ℕ) (from to key m : ℕ) (span : IsEntryRange words from to) (inside : m < to) where
  pub all_below : first_at words m < key → (e : ℕ) → e < m + 1 → first_at words e < key
  all_below h e l = let s : first_at words e ≤ first_at words m = span.ascending e m (omega arith) inside in omega (arith, s, h)

  pub all_above : key ≤ first_at words m → (e : ℕ) → m ≤ e → e < to → key ≤ first_at words e
  all_above h e l n = let s : first_at words m ≤ first_at words e = span.ascending m e l n in omega (arith, s, h)
