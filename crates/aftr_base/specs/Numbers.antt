-- Bytes as numbers, in network order (RFC 791, appendix B).
use Rattle.std.specs.Prelude.{ℕ, ◌+◌, ◌*◌, ◌/◌, ◌%◌, ◌^◌, List, [], ◌∷◌, ◌++◌, length, take, drop}

-- the value of a list of bytes, the first of them the most significant
abbrev pub big_endian : List ℕ → ℕ
big_endian [] = 0
big_endian (b ∷ bs) = b * 256 ^ length bs + big_endian bs

-- the given number of bytes from a place on
abbrev pub span : List ℕ → ℕ → ℕ → List ℕ
span bytes at count = take count (drop at bytes)

-- a 16-bit word as its two bytes
abbrev pub word_bytes : ℕ → List ℕ
word_bytes word = word / 256 ∷ word % 256 ∷ []

-- the bytes with a 16-bit word in the place of what stands there
abbrev pub with_word : List ℕ → ℕ → ℕ → List ℕ
with_word bytes at word = take at bytes ++ word_bytes word ++ drop (at + 2) bytes
