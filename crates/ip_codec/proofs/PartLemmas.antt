-- Lemmas on two lists that stand one behind the other: their front, their checksum, and a header that is made of two.
use Rattle.std.proofs.Common.{◌≡◌, ℕ, zero, suc, ◌+◌, ◌-◌, ◌%◌, List, [], ◌∷◌, ◌++◌, length, take, refl, sym, ◌∙◌, ap, arith, add_comm, append_assoc}
use Rattle.aftr_base.specs.Numbers.{with_word}
use Rattle.aftr_base.specs.Sums.{word_sum, folded, checksum, patched, sealed}
use Rattle.aftr_base.proofs.SumLemmas.{folded-le, folded_inside, word_sum-append}
use Rattle.ip_codec.specs.declared.packet4.Head4.{Head4}
use Rattle.ip_codec.specs.Packet4.{fixed4}

-- the front of both is that of the first, and of the second as much as is left
pub front-joined : (n : ℕ) (a b : List ℕ) → take n a ++ take (n - length (take n a)) b ≡ take n (a ++ b)
front-joined zero a b = refl
front-joined (suc n) [] b = let same : suc n - 0 ≡ suc n = omega arith in ap (λ k. take k b) same
front-joined (suc n) (x ∷ a) b =
    let same : suc n - suc (length (take n a)) ≡ n - length (take n a) = omega arith in
    ap (λ k. x ∷ (take n a ++ take k b)) same ∙ ap (λ l. x ∷ l) (front-joined n a b)

complement : (bytes : List ℕ) → 65535 - checksum bytes ≡ folded (word_sum bytes)
complement bytes = omega (arith, folded-le (word_sum bytes))

-- the complements of two sums add up to that of both lists
pub checksum-parts : (first rest : List ℕ) → length first % 2 ≡ 0 →
    patched (checksum first) (checksum rest) 0 ≡ checksum (first ++ rest)
checksum-parts first rest even =
    let a = word_sum first in
    let b = word_sum rest in
    let sums : (65535 - checksum first) + (65535 - checksum rest) + 0 ≡ folded a + folded b = omega (arith, complement first, complement rest) in
    ap (λ n. 65535 - n)
    (ap folded sums
    ∙ sym (folded_inside (folded a) b)
    ∙ ap folded (add_comm (folded a) b)
    ∙ sym (folded_inside b a)
    ∙ ap folded (add_comm b a ∙ sym (word_sum-append first rest even)))

-- the fixed part with the checksum of it and the options behind it, and then the options, are the sealed header
pub header-appended : (out options first second placed fixed : List ℕ) (sum : ℕ) (head : Head4) (header_len total_len : ℕ) →
    fixed ≡ fixed4 head header_len total_len → sum ≡ checksum (fixed ++ options) → placed ≡ with_word fixed 10 sum →
    first ≡ out ++ placed → second ≡ first ++ options → second ≡ out ++ sealed (fixed4 head header_len total_len ++ options) 10
header-appended out options first second placed fixed sum head header_len total_len fixed_is sum_is placed_is first_is second_is =
    let plain = fixed4 head header_len total_len in
    let whole : sum ≡ checksum (plain ++ options) = sum_is ∙ ap (λ f. checksum (f ++ options)) fixed_is in
    let headed : placed ≡ with_word plain 10 (checksum (plain ++ options)) = placed_is ∙ (λ i. with_word (fixed_is i) 10 (whole i)) in
    second_is
    ∙ ap (λ l. l ++ options) (first_is ∙ ap (λ l. out ++ l) headed)
    ∙ append_assoc out (with_word plain 10 (checksum (plain ++ options))) options
