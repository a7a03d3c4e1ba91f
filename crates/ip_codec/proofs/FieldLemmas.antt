-- Lemmas on numbers that are written in network order and read back, and on their places.
use Rattle.std.proofs.Common.{◌≡◌, ℕ, suc, zero, ◌+◌, ◌/◌, ◌%◌, ◌^◌, ◌≤◌, List, ◌++◌, length, take, drop, refl, sym, ◌∙◌, ap, arith}
use Rattle.std.proofs.Math.Arith.{mod-mul}
use Rattle.std.proofs.Math.Nat.{div-add-mod, pow-succ', one-le-pow}
use Rattle.std.proofs.lemmas.List.{drop-append-le, take-append-le, length-drop, length-take-le, take-append-drop}
use Rattle.std.specs.Int.{byte_at, bytes_high_first}
use Rattle.aftr_base.specs.Numbers.{big_endian, span, word_bytes}

byte_at-is : (k n : ℕ) → byte_at k n ≡ n / 256 ^ k % 256
byte_at-is zero n = omega arith
byte_at-is (suc k) n = refl

pub length-bytes_high_first : (k n : ℕ) → length (bytes_high_first k n) ≡ k
length-bytes_high_first zero n = refl
length-bytes_high_first (suc k) n = ap suc (length-bytes_high_first k n)

-- the bytes of a number spell its rest
pub big_endian-bytes_high_first : (k n : ℕ) → big_endian (bytes_high_first k n) ≡ n % 256 ^ k
big_endian-bytes_high_first zero n = omega arith
big_endian-bytes_high_first (suc k) n =
    rw (length-bytes_high_first k n, byte_at-is k n, big_endian-bytes_high_first k n, pow-succ' 256 k)
    (sym (mod-mul n (omega arith) (one-le-pow k 256 (omega arith))))

pub big_endian-word_bytes : (word : ℕ) → big_endian (word_bytes word) ≡ word
big_endian-word_bytes word = omega (arith, div-add-mod word 256)

-- what stands in the first of two lists stands in both together
pub span-append : (a b : List ℕ) (at n : ℕ) → at + n ≤ length a → span (a ++ b) at n ≡ span a at n
span-append a b at n within =
    ap (take n) (drop-append-le at a b (omega arith)) ∙ take-append-le n (drop at a) b (omega (arith, length-drop at a))

pub span-take : (bytes : List ℕ) (len at n : ℕ) → at + n ≤ len → len ≤ length bytes → span (take len bytes) at n ≡ span bytes at n
span-take bytes len at n inside within =
    sym (span-append (take len bytes) (drop len bytes) at n (omega (arith, length-take-le len bytes within)))
    ∙ ap (λ l. span l at n) (take-append-drop len bytes)
