-- Lemmas on chains: a header that is passed gives the chain of what follows it, however many headers are counted.
use Rattle.std.proofs.Common.{◌≡◌, ℕ, zero, suc, ◌+◌, ◌<◌, ◌≤◌, Bool, true, false, if◌then◌else◌, List, length, drop, slice_index, refl, sym, ◌∙◌, ap, subst, arith}
use Rattle.std.proofs.lemmas.List.{length-drop, drop-drop}
use Rattle.std.proofs.lemmas.Bool.{ltb-false, or_parts}
use Rattle.std.specs.Prelude.{nat_lt, Result}
use Rattle.ipv6_chain.specs.declared.headers.Start.{Start}
use Rattle.ipv6_chain.specs.declared.headers.Chain.{Chain}
use Rattle.ipv6_chain.specs.declared.headers.ChainBad.{ChainBad}
use Rattle.ipv6_chain.specs.Chains.{chain_within, chain_from, header_len, is_short, is_skipped, is_misplaced, has_segments}

-- two values under one test, of which the first is never compared where the test is true
under : {A : Type 0} (test : Bool) (a b c : A) → (test ≡ false → b ≡ c) → (if test then a else b) ≡ (if test then a else c)
under true a b c same = refl
under false a b c same = same refl

-- two values under one test, of which the second is never compared
over : {A : Type 0} (test : Bool) (a b c : A) → (test ≡ true → a ≡ b) → (if test then a else c) ≡ (if test then b else c)
over true a b c same = same refl
over false a b c same = refl

-- what is left behind a header that is whole is shorter
shorter : (left : List ℕ) → is_short left ≡ false → length (drop (header_len left) left) + 8 ≤ length left
shorter left whole =
    let parts = or_parts (nat_lt (length left) 8) (nat_lt (length left) (header_len left)) whole in
    let enough = ltb-false (length left) (header_len left) parts.1 in
    omega (arith, length-drop (header_len left) left)

-- counting more headers than there are bytes changes nothing
same_chain : (n m next at : ℕ) (left : List ℕ) (start : Start) → length left < n → length left < m →
    chain_within n next at left start ≡ chain_within m next at left start
same_chain zero m next at left start enough also = absurd (omega arith)
same_chain (suc n) zero next at left start enough also = absurd (omega arith)
same_chain (suc n) (suc m) next at left start enough also =
    over (is_skipped next) _ _ _
    (λ passed. under (is_misplaced next at start) _ _ _
    (λ placed. under (is_short left) _ _ _
    (λ whole. under (has_segments next left) _ _ _
    (λ unrouted. same_chain n m (slice_index left 0) (at + header_len left) (drop (header_len left) left) start
    (omega (arith, shorter left whole)) (omega (arith, shorter left whole))))))

-- what holds of a header that is passed
pub record IsPassed (next at : ℕ) (left : List ℕ) (start : Start) : Type 0 where
  pub skipped : is_skipped next ≡ true
  pub placed : is_misplaced next at start ≡ false
  pub whole : is_short left ≡ false
  pub unrouted : has_segments next left ≡ false

-- a header that is passed gives the chain of what follows it
pub chain-passed : (next at : ℕ) (left : List ℕ) (start : Start) → IsPassed next at left start →
    chain_from next at left start
    ≡ chain_from (slice_index left 0) (at + header_len left) (drop (header_len left) left) start
chain-passed next at left start is =
    rw (is.skipped, is.placed, is.whole, is.unrouted)
    (same_chain (length left) (suc (length (drop (header_len left) left))) (slice_index left 0) (at + header_len left) (drop (header_len left) left) start
    (omega (arith, shorter left is.whole)) (omega arith))

-- the same at a place of a body
pub chain-on : (next at len first : ℕ) (body left : List ℕ) (start : Start) (end : Result Chain ChainBad) → left ≡ drop at body →
    len ≡ header_len left → first ≡ slice_index left 0 → IsPassed next at left start →
    chain_from next at (drop at body) start ≡ end → chain_from first (at + len) (drop (at + len) body) start ≡ end
chain-on next at len first body left start end left_is len_is first_is passed before =
    let Passed : List ℕ → Type 0 = λ l. IsPassed next at l start in
    let whole = drop at body in
    let len_now : len ≡ header_len whole = len_is ∙ ap header_len left_is in
    let first_now : first ≡ slice_index whole 0 = first_is ∙ ap (λ l. slice_index l 0) left_is in
    let rest_now : drop (header_len whole) whole ≡ drop (at + len) body = drop-drop (header_len whole) at body ∙ ap (λ n. drop (at + n) body) (sym len_now) in
    (λ i. chain_from (first_now i) (at + len_now i) (sym rest_now i) start)
    ∙ sym (chain-passed next at whole start (subst Passed left_is passed))
    ∙ before
