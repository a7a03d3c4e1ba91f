-- Lemmas on the Internet checksum.
use Rattle.std.proofs.Common.{◌≡◌, ◌≢◌, ℕ, ◌+◌, ◌-◌, ◌*◌, ◌/◌, ◌%◌, ◌<◌, ◌≤◌, List, [], ◌∷◌, ◌++◌, length, take, drop, refl, sym, ◌∙◌, ap, arith, ⊎_elim, add_assoc, add_comm, append_assoc}
use Rattle.std.proofs.lemmas.Bool.{ne_eqb, cases_eq}
use Rattle.std.proofs.lemmas.List.{drop-drop, length-take-le, take-append-drop}
use Rattle.std.proofs.Math.Nat.{add-mul-mod_self_left, mod-lt, div-add-mod}
use Rattle.aftr_base.proofs.NumberLemmas.{length-span}
use Rattle.aftr_base.specs.Numbers.{big_endian, span, with_word, word_bytes}
use Rattle.aftr_base.specs.Sums.{word_sum, folded, checksum, sealed, patched, IsPatched}

-- a sum of 0 folds to 0, and every other as a remainder that is never 0
folded-pos : (s : ℕ) → 0 < s → folded s ≡ (s - 1) % 65535 + 1
folded-pos s above = rw (ne_eqb s 0 (λ (e : s ≡ 0). omega arith)) refl

pub folded-le : (s : ℕ) → folded s ≤ 65535
folded-le s = ⊎_elim
    (λ (e : s ≡ 0). rw e (omega arith))
    (λ (n : s ≢ 0). rw (folded-pos s (omega arith)) (omega (arith, mod-lt (s - 1) {m = 65535} (omega arith))))
    (cases_eq s 0)

-- what is added in multiples of 65,535 folds away, but for the two forms of zero
pub folded_shift : (s k : ℕ) → (s ≡ 0 → k ≡ 0) → folded (s + 65535 * k) ≡ folded s
folded_shift s k zeros = ⊎_elim
    (λ (e : s ≡ 0). ap folded (omega (arith, zeros e)))
    (λ (n : s ≢ 0).
    let moved : s + 65535 * k - 1 ≡ (s - 1) + 65535 * k = omega arith in
    folded-pos (s + 65535 * k) (omega arith)
    ∙ ap (λ m. m % 65535 + 1) moved
    ∙ ap (λ m. m + 1) (add-mul-mod_self_left (s - 1) 65535 k)
    ∙ sym (folded-pos s (omega arith)))
    (cases_eq s 0)

-- a sum is what it folds to and a multiple of 65,535
folded-parts : (a : ℕ) → (q : ℕ) × (a ≡ folded a + 65535 * q) × (folded a ≡ 0 → q ≡ 0)
folded-parts a = ⊎_elim
    (λ (e : a ≡ 0). (0, rw e refl, λ _. refl))
    (λ (n : a ≢ 0).
    let pos : folded a ≡ (a - 1) % 65535 + 1 = folded-pos a (omega arith) in
    ((a - 1) / 65535, omega (arith, div-add-mod (a - 1) 65535, pos), λ (z : folded a ≡ 0). absurd (omega (arith, z, pos))))
    (cases_eq a 0)

-- a part of a sum may be folded before
pub folded_inside : (t a : ℕ) → folded (t + a) ≡ folded (t + folded a)
folded_inside t a =
    let parts = folded-parts a in
    let moved : t + a ≡ t + folded a + 65535 * parts.0 = omega (arith, parts.1) in
    ap folded moved ∙ folded_shift (t + folded a) parts.0 (λ (z : t + folded a ≡ 0). parts.2 (omega arith))

pub folded_same : (t a b : ℕ) → folded a ≡ folded b → folded (t + a) ≡ folded (t + b)
folded_same t a b e = folded_inside t a ∙ ap (λ n. folded (t + n)) e ∙ sym (folded_inside t b)

pub word_sum-append : (a b : List ℕ) → length a % 2 ≡ 0 → word_sum (a ++ b) ≡ word_sum a + word_sum b
word_sum-append [] b even = omega arith
word_sum-append (x ∷ []) b even = absurd (omega arith)
word_sum-append (x ∷ y ∷ a) b even =
    let rest = word_sum-append a b (omega arith) in
    ap (λ n. x * 256 + y + n) rest ∙ sym (add_assoc (x * 256 + y) (word_sum a) (word_sum b))

-- the pieces of a list, folded one after another
pub folded_pieces : (sum piece : ℕ) (first rest : List ℕ) → length first % 2 ≡ 0 → folded piece ≡ folded (word_sum first) →
    folded (folded (sum + piece) + word_sum rest) ≡ folded (sum + word_sum (first ++ rest))
folded_pieces sum piece first rest even same =
    ap folded (add_comm (folded (sum + piece)) (word_sum rest))
    ∙ sym (folded_inside (word_sum rest) (sum + piece))
    ∙ ap folded (sym (add_assoc (word_sum rest) sum piece))
    ∙ folded_same (word_sum rest + sum) piece (word_sum first) same
    ∙ ap folded (omega (arith, word_sum-append first rest even))

word_sum-word : (word : ℕ) → word_sum (word_bytes word) ≡ word
word_sum-word word = omega (arith, div-add-mod word 256)

word_sum-span : (bytes : List ℕ) → length bytes ≡ 2 → word_sum bytes ≡ big_endian bytes
word_sum-span [] h = refl
word_sum-span (x ∷ []) h = absurd (omega arith)
word_sum-span (x ∷ y ∷ []) h = omega arith
word_sum-span (x ∷ y ∷ z ∷ rest) h = absurd (omega arith)

-- a word at an even place is one part of the sum, and what is around it another
pub word_sum-with_word : (bytes : List ℕ) (at word : ℕ) → at % 2 ≡ 0 → at + 2 ≤ length bytes →
    word_sum (with_word bytes at word) ≡ word_sum (take at bytes) + word_sum (drop (at + 2) bytes) + word
word_sum-with_word bytes at word even within =
    let front_len : length (take at bytes) ≡ at = length-take-le at bytes (omega arith) in
    ap word_sum (append_assoc (take at bytes) (word_bytes word) (drop (at + 2) bytes))
    ∙ word_sum-append (take at bytes) (word_bytes word ++ drop (at + 2) bytes) (rw front_len even)
    ∙ omega (arith, word_sum-word word)

patched_is : (front was now sum : ℕ) → was ≤ 65535 → 65535 - folded (front + was) ≡ sum → front + now ≢ 0 →
    65535 - folded ((65535 - sum) + (65535 - was) + now) ≡ 65535 - folded (front + now)
patched_is front was now sum small e some =
    let back : 65535 - sum ≡ folded (front + was) = omega (arith, folded-le (front + was)) in
    let total : (65535 - was) + now + (front + was) ≡ front + now + 65535 * 1 = omega arith in
    ap (λ n. 65535 - n)
    (ap folded (omega (arith, back))
    ∙ sym (folded_inside ((65535 - was) + now) (front + was))
    ∙ ap folded total
    ∙ folded_shift (front + now) 1 (λ (z : front + now ≡ 0). absurd (some z)))

-- a patched checksum is that of the bytes with the new word
pub patched-law : (sum was now : ℕ) → was ≤ 65535 → IsPatched sum was now (patched sum was now)
patched-law sum was now small bytes at even within e was_is some =
    let before = take at bytes in
    let after = drop (at + 2) bytes in
    let mid = span bytes at 2 in
    let front_len : length before ≡ at = length-take-le at bytes (omega arith) in
    let mid_len : length mid ≡ 2 = length-span bytes at 2 within in
    let split : bytes ≡ before ++ (mid ++ after) = sym (ap (λ l. before ++ l) (ap (λ l. mid ++ l) (sym (drop-drop 2 at bytes)) ∙ take-append-drop 2 (drop at bytes)) ∙ take-append-drop at bytes) in
    let sum_is : word_sum bytes ≡ word_sum before + word_sum after + was =
    ap word_sum split ∙ word_sum-append before (mid ++ after) (rw front_len even)
    ∙ ap (λ n. word_sum before + n) (word_sum-append mid after (rw mid_len refl))
    ∙ omega (arith, word_sum-span mid mid_len, was_is) in
    let new_is : word_sum (with_word bytes at now) ≡ word_sum before + word_sum after + now =
    ap word_sum (append_assoc before (word_bytes now) after) ∙ word_sum-append before (word_bytes now ++ after) (rw front_len even)
    ∙ omega (arith, word_sum-word now) in
    patched_is (word_sum before + word_sum after) was now sum small
    (ap (λ n. 65535 - folded n) (sym sum_is) ∙ e)
    (λ (z : word_sum before + word_sum after + now ≡ 0). some (new_is ∙ z))
    ∙ ap (λ n. 65535 - folded n) (sym new_is)

pub folded_full : (s : ℕ) → folded (s + (65535 - folded s)) ≡ 65535
folded_full s =
    let parts = folded-parts s in
    let full : s + (65535 - folded s) ≡ 65535 + 65535 * parts.0 = omega (arith, parts.1, folded-le s) in
    ap folded full ∙ folded_shift 65535 parts.0 (λ (z : 65535 ≡ 0). absurd (omega arith))

-- bytes with their own checksum in them sum to 0
pub checksum-sealed : (bytes : List ℕ) (at : ℕ) → at % 2 ≡ 0 → at + 2 ≤ length bytes → checksum (sealed bytes at) ≡ 0
checksum-sealed bytes at even within =
    let around = word_sum (take at bytes) + word_sum (drop (at + 2) bytes) in
    let blank : word_sum (with_word bytes at 0) ≡ around = word_sum-with_word bytes at 0 even within ∙ omega arith in
    let whole : word_sum (sealed bytes at) ≡ around + (65535 - folded around) =
    word_sum-with_word bytes at (checksum (with_word bytes at 0)) even within ∙ ap (λ n. around + (65535 - folded n)) blank in
    ap (λ n. 65535 - folded n) whole ∙ ap (λ n. 65535 - n) (folded_full around)
