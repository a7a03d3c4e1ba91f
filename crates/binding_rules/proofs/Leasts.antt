-- The least number with a property, and the least pair.
use Rattle.std.proofs.Common.{◌≡◌, ℕ, ◌<◌, ◌≤◌, ◌⊎◌, inl, inr, true, false, Option, Some, None, arith}
use Rattle.std.proofs.lemmas.Bool.{cases_Bool, cases_lt, ltb-true, ltb-false, or_cases, or_parts, and_parts, and_cases, eqb-true, eqb-false}
use Rattle.std.specs.Prelude.{nat_lt, ◌||◌, ◌==◌, ◌&&◌}
use Rattle.binding_rules.specs.declared.conflicts.Pair.{Pair}
use Rattle.binding_rules.specs.Scans.{IsLeast, IsLeastPair, IsNotAfter, lesser_of, earlier_of}

pub least_iff : (P Q : ℕ → Type 0) (o : Option ℕ) → ((n : ℕ) → P n → Q n) → ((n : ℕ) → Q n → P n) → IsLeast P o → IsLeast Q o
least_iff P Q None there back least = λ n q. least n (back n q)
least_iff P Q (Some m) there back least = (there m least.0, λ n q. least.1 n (back n q))

pub least_or : (P Q : ℕ → Type 0) (x y : Option ℕ) → IsLeast P x → IsLeast Q y → IsLeast (λ n. P n ⊎ Q n) (lesser_of x y)
least_or P Q None None p q = λ n e. elim e [ inl h ↦ p n h | inr h ↦ q n h ]
least_or P Q None (Some b) p q = (inr q.0, λ n e. elim e [ inl h ↦ absurd (p n h) | inr h ↦ q.1 n h ])
least_or P Q (Some a) None p q = (inl p.0, λ n e. elim e [ inl h ↦ p.1 n h | inr h ↦ absurd (q n h) ])
least_or P Q (Some a) (Some b) p q =
    elim (cases_Bool (nat_lt b a)) [
      | inl t ↦
          let less : b < a = ltb-true b a t in
          rw t (inr q.0, λ n e. elim e [ inl h ↦ (let m : a ≤ n = p.1 n h in omega arith) | inr h ↦ q.1 n h ])
      | inr t ↦
          let more : a ≤ b = ltb-false b a t in
          rw t (inl p.0, λ n e. elim e [ inl h ↦ p.1 n h | inr h ↦ (let m : b ≤ n = q.1 n h in omega arith) ])
    ]

pub pair_iff : (P Q : ℕ → ℕ → Type 0) (o : Option Pair) → ((f s : ℕ) → P f s → Q f s) → ((f s : ℕ) → Q f s → P f s)
    → IsLeastPair P o → IsLeastPair Q o
pair_iff P Q None there back least = λ f s q. least f s (back f s q)
pair_iff P Q (Some m) there back least = (there m.first m.second least.0, λ f s q. least.1 f s (back f s q))

-- a pair that is not after another is not after what that one is not after
not_after_trans : (f s g t h u : ℕ) → (s < t) ⊎ ((s ≡ t) × (f ≤ g)) → IsNotAfter g t h u → IsNotAfter f s h u
not_after_trans f s g t h u (inl l) (inl m) = inl (omega arith)
not_after_trans f s g t h u (inl l) (inr m) = inl (omega (arith, m.0))
not_after_trans f s g t h u (inr e) (inl m) = inl (omega (arith, e.0))
not_after_trans f s g t h u (inr e) (inr m) = inr (omega (arith, e.0, m.0), omega (arith, e.1, m.1))

-- the test of two pairs, true and false
earlier_true : (a b : Pair) → (nat_lt b.second a.second || ((b.second == a.second) && nat_lt b.first a.first)) ≡ true
    → IsNotAfter b.first b.second a.first a.second
earlier_true a b t =
    elim (or_cases _ _ t) [
      | inl l ↦ inl (ltb-true _ _ l)
      | inr e ↦ (let parts = and_parts _ _ e in
          let same : b.second ≡ a.second = eqb-true _ _ parts.0 in
          let less : b.first < a.first = ltb-true _ _ parts.1 in
          inr (same, omega arith))
    ]

earlier_false : (a b : Pair) → (nat_lt b.second a.second || ((b.second == a.second) && nat_lt b.first a.first)) ≡ false
    → IsNotAfter a.first a.second b.first b.second
earlier_false a b t =
    let parts = or_parts _ _ t in
    let no_less : a.second ≤ b.second = ltb-false _ _ parts.0 in
    elim (and_cases _ _ parts.1) [
      | inl e ↦ (let apart : b.second ≡ a.second → ⊥ = eqb-false _ _ e in inl (omega arith))
      | inr l ↦ (let first : a.first ≤ b.first = ltb-false _ _ l in
          elim (cases_order_of a.second b.second no_less) [ inl m ↦ inl m | inr e ↦ inr (e, first) ])
    ]
  where
    cases_order_of : (x y : ℕ) → x ≤ y → (x < y) ⊎ (x ≡ y)
    cases_order_of x y l = elim (cases_lt x y) [ inl m ↦ inl m | inr m ↦ inr (omega arith) ]

pub pair_or : (P Q : ℕ → ℕ → Type 0) (x y : Option Pair) → IsLeastPair P x → IsLeastPair Q y
    → IsLeastPair (λ f s. P f s ⊎ Q f s) (earlier_of x y)
pair_or P Q None None p q = λ f s e. elim e [ inl h ↦ p f s h | inr h ↦ q f s h ]
pair_or P Q None (Some b) p q = (inr q.0, λ f s e. elim e [ inl h ↦ absurd (p f s h) | inr h ↦ q.1 f s h ])
pair_or P Q (Some a) None p q = (inl p.0, λ f s e. elim e [ inl h ↦ p.1 f s h | inr h ↦ absurd (q f s h) ])
pair_or P Q (Some a) (Some b) p q =
    elim (cases_Bool (nat_lt b.second a.second || ((b.second == a.second) && nat_lt b.first a.first))) [
      | inl t ↦ rw t (
        inr q.0,
        λ f s e. elim e [
          | inl h ↦ not_after_trans _ _ _ _ _ _ (earlier_true a b t) (p.1 f s h)
          | inr h ↦ q.1 f s h
        ],
      )
      | inr t ↦ rw t (
        inl p.0,
        λ f s e. elim e [
          | inl h ↦ p.1 f s h
          | inr h ↦ not_after_trans _ _ _ _ _ _ (earlier_false a b t) (q.1 f s h)
        ],
      )
    ]
