-- Lemmas on the sum of a header without options, four bytes at a time.
use Rattle.std.proofs.Common.{◌≡◌, ◌≢◌, ◌==◌, ℕ, zero, suc, refl, ◌+◌, ◌-◌, ◌*◌, ◌%◌, ◌≤◌, List, [], ◌∷◌, length, take, drop, sym, ◌∙◌, ap, arith}
use Rattle.std.proofs.lemmas.List.{drop-drop, drop_all, length-drop}
use Rattle.std.proofs.lemmas.Bool.{ne_eqb}
use Rattle.aftr_base.specs.Numbers.{big_endian, span}
use Rattle.aftr_base.specs.Sums.{folded, word_sum}
use Rattle.aftr_base.proofs.SumLemmas.{folded_shift}

-- four bytes as one number, and the sum of what stands behind them: more than the sum of all words by so many times 65,535
record AddsFour (bytes : List ℕ) (number : ℕ) (behind : List ℕ) : Type 0 where
  pub times : ℕ
  pub sum : number + word_sum behind ≡ word_sum bytes + 65535 * times
  pub few : times + word_sum behind ≤ word_sum bytes

four_more : (bytes : List ℕ) → 4 ≤ length bytes → AddsFour bytes (big_endian (take 4 bytes)) (drop 4 bytes)
four_more [] some = absurd (omega (arith, some))
four_more (a ∷ []) some = absurd (omega (arith, some))
four_more (a ∷ b ∷ []) some = absurd (omega (arith, some))
four_more (a ∷ b ∷ c ∷ []) some = absurd (omega (arith, some))
four_more (a ∷ b ∷ c ∷ d ∷ rest) some = record { times = a * 256 + b; sum = omega arith; few = omega arith }

four_at : (bytes : List ℕ) (at : ℕ) → at + 4 ≤ length bytes → AddsFour (drop at bytes) (big_endian (span bytes at 4)) (drop (at + 4) bytes)
four_at bytes at within =
    let here = four_more (drop at bytes) (omega (arith, within, length-drop at bytes)) in
    let behind : word_sum (drop 4 (drop at bytes)) ≡ word_sum (drop (at + 4) bytes) = ap word_sum (drop-drop 4 at bytes) in
    record { times = here.times; sum = omega (arith, here.sum, behind); few = omega (arith, here.few, behind) }

pub plain_folds : (header : List ℕ) → length header ≡ 20 →
    folded (big_endian (span header 0 4) + big_endian (span header 4 4) + big_endian (span header 8 4) + big_endian (span header 12 4) + big_endian (span header 16 4))
    ≡ folded (word_sum header)
plain_folds header size =
    let a = four_at header 0 (omega (arith, size)) in
    let b = four_at header 4 (omega (arith, size)) in
    let c = four_at header 8 (omega (arith, size)) in
    let d = four_at header 12 (omega (arith, size)) in
    let e = four_at header 16 (omega (arith, size)) in
    let times : ℕ = a.times + b.times + c.times + d.times + e.times in
    let ended : word_sum (drop 20 header) ≡ 0 = ap word_sum (drop_all 20 header (omega (arith, size))) in
    let sum : big_endian (span header 0 4) + big_endian (span header 4 4) + big_endian (span header 8 4) + big_endian (span header 12 4) + big_endian (span header 16 4)
    ≡ word_sum header + 65535 * times = omega (arith, a.sum, b.sum, c.sum, d.sum, e.sum, ended) in
    ap folded sum
    ∙ folded_shift (word_sum header) times (λ (z : word_sum header ≡ 0). omega (arith, a.few, b.few, c.few, d.few, e.few, z))

-- a sum folds to bits that are all set where it is a multiple of 65,535, and not 0
pub full_some : (sum : ℕ) → sum ≢ 0 → (sum % 65535 == 0) ≡ (65535 - folded sum == 0)
full_some sum some = by_parts (sum % 65535) refl
  where
    pos : folded sum ≡ (sum - 1) % 65535 + 1
    pos = rw (ne_eqb sum 0 some) refl

    by_parts : (left : ℕ) → sum % 65535 ≡ left → (left == 0) ≡ (65535 - folded sum == 0)
    by_parts zero is = let none : 65535 - folded sum ≡ 0 = omega (arith, pos, is, some) in rw (none) refl
    by_parts (suc left) is =
        let more : 65535 - folded sum ≢ 0 = λ (e : 65535 - folded sum ≡ 0). absurd (omega (arith, e, pos, some, is)) in
        ne_eqb (suc left) 0 (λ (e : suc left ≡ 0). absurd (omega (arith, e))) ∙ sym (ne_eqb (65535 - folded sum) 0 more)
