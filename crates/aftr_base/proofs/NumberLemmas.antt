-- Lemmas on numbers in network order.
use Rattle.std.proofs.Common.{◌≡◌, ℕ, ◌+◌, ◌*◌, ◌^◌, ◌≤◌, List, [], ◌∷◌, ◌++◌, length, take, drop, sym, ◌∙◌, ap, arith}
use Rattle.std.proofs.lemmas.List.{drop-drop, length-take-le, length-append, length-drop}
use Rattle.std.proofs.lemmas.Nat.{pow-add}
use Rattle.std.proofs.Math.Nat.{mul_assoc}
use Rattle.std.proofs.Math.Seq.{take-add}
use Rattle.std.proofs.lemmas.Grind.{common_steps}
use Rattle.aftr_base.specs.Numbers.{big_endian, span, with_word}

joined_digit : (x p q r u v w : ℕ) → r ≡ p * q → u ≡ v * q + w → x * r + u ≡ (x * p + v) * q + w
joined_digit x p q r u v w e f = rw (e, f) (omega (arith, mul_assoc x p q))

-- two lists one behind the other
pub big_endian-append : (a b : List ℕ) → big_endian (a ++ b) ≡ big_endian a * 256 ^ length b + big_endian b
big_endian-append [] b = omega arith
big_endian-append (x ∷ a) b =
    joined_digit x (256 ^ length a) (256 ^ length b) _ _ (big_endian a) (big_endian b)
    (ap (λ n. 256 ^ n) (length-append a b) ∙ pow-add 256 (length a) (length b)) (big_endian-append a b)

span_split : (bytes : List ℕ) (at n m : ℕ) → span bytes at (n + m) ≡ span bytes at n ++ span bytes (at + n) m
span_split bytes at n m = take-add n m (drop at bytes) ∙ ap (λ l. take n (drop at bytes) ++ take m l) (drop-drop n at bytes)

pub length-span : (bytes : List ℕ) (at n : ℕ) → at + n ≤ length bytes → length (span bytes at n) ≡ n
length-span bytes at n h = length-take-le n (drop at bytes) (omega (arith, length-drop at bytes))

-- a number is the number of its first bytes, moved up, and that of the others
pub big_endian_split : (bytes : List ℕ) (at n m : ℕ) → at + (n + m) ≤ length bytes →
    big_endian (span bytes at (n + m)) ≡ big_endian (span bytes at n) * 256 ^ m + big_endian (span bytes (at + n) m)
big_endian_split bytes at n m h =
    ap big_endian (span_split bytes at n m) ∙ big_endian-append (span bytes at n) (span bytes (at + n) m)
    ∙ ap (λ k. big_endian (span bytes at n) * 256 ^ k + big_endian (span bytes (at + n) m)) (length-span bytes (at + n) m (omega arith))

pub halves_of_8 : (bytes : List ℕ) (at : ℕ) → at + 8 ≤ length bytes →
    big_endian (span bytes at 4) * 4294967296 + big_endian (span bytes (at + 4) 4) ≡ big_endian (span bytes at 8)
halves_of_8 bytes at h = sym (big_endian_split bytes at 4 4 h)

pub halves_of_16 : (bytes : List ℕ) (at : ℕ) → at + 16 ≤ length bytes →
    big_endian (span bytes at 8) * 18446744073709551616 + big_endian (span bytes (at + 8) 8) ≡ big_endian (span bytes at 16)
halves_of_16 bytes at h = sym (big_endian_split bytes at 8 8 h)

-- of two words put at one place the second stays
pub with_word-with_word : (bytes : List ℕ) (at first second : ℕ) → at + 2 ≤ length bytes →
    with_word (with_word bytes at first) at second ≡ with_word bytes at second
with_word-with_word bytes at first second within = grind (arith, common_steps)
