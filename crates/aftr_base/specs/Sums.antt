-- The Internet checksum (RFC 791, section 3.1; RFC 1071).
use Rattle.std.specs.Prelude.{◌≡◌, ◌≢◌, ℕ, ◌+◌, ◌-◌, ◌*◌, ◌%◌, ◌≤◌, ◌==◌, if◌then◌else◌, List, [], ◌∷◌, length}
use Rattle.aftr_base.specs.Numbers.{big_endian, span, with_word}

-- the plain sum of the 16-bit words, an odd last byte padded with zero
abbrev pub word_sum : List ℕ → ℕ
word_sum [] = 0
word_sum (high ∷ []) = high * 256
word_sum (high ∷ low ∷ rest) = high * 256 + low + word_sum rest

-- a sum brought into 16 bits: what adding with end-around carry gives
abbrev pub folded : ℕ → ℕ
folded sum = if sum == 0 then 0 else (sum - 1) % 65535 + 1

-- the one's complement of the one's complement sum
abbrev pub checksum : List ℕ → ℕ
checksum bytes = 65535 - folded (word_sum bytes)

-- the bytes with their own checksum at a place, which counts as zero in it
abbrev pub sealed : List ℕ → ℕ → List ℕ
sealed bytes at = with_word bytes at (checksum (with_word bytes at 0))

-- A checksum after one word has changed (RFC 1624, equation 3): the complement of the one's complement sum of the
-- complements of the checksum and of the old word, and the new word.
abbrev pub patched : ℕ → ℕ → ℕ → ℕ
patched sum was now = 65535 - folded ((65535 - sum) + (65535 - was) + now)

-- Whatever bytes have this checksum and the old word at an even place, the result is the checksum of the bytes with the
-- new word there, unless that leaves nothing but zeros (for those the two forms of zero differ: RFC 1624, section 3).
abbrev pub IsPatched : ℕ → ℕ → ℕ → ℕ → Type 0
IsPatched sum was now result = (bytes : List ℕ) (at : ℕ) → at % 2 ≡ 0 → at + 2 ≤ length bytes →
    checksum bytes ≡ sum → big_endian (span bytes at 2) ≡ was →
    word_sum (with_word bytes at now) ≢ 0 → result ≡ checksum (with_word bytes at now)
