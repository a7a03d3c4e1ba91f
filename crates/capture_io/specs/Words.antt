-- Numbers of a capture: each file has one byte order for all of them.
use Rattle.std.specs.Prelude.{ℕ, Bool, if◌then◌else◌, List}
use Rattle.std.specs.Int.{w16, w32, from_be_bytes, from_le_bytes, to_be_bytes, to_le_bytes}
use Rattle.aftr_base.specs.Numbers.{span}

-- the 16 bits at a place; a big-endian file has the most significant byte first
abbrev pub half_at : Bool → List ℕ → ℕ → ℕ
half_at big bytes at = if big then from_be_bytes w16 (span bytes at 2) else from_le_bytes w16 (span bytes at 2)

-- the 32 bits at a place
abbrev pub word_at : Bool → List ℕ → ℕ → ℕ
word_at big bytes at = if big then from_be_bytes w32 (span bytes at 4) else from_le_bytes w32 (span bytes at 4)

-- 16 bits as bytes
abbrev pub half_bytes : Bool → ℕ → List ℕ
half_bytes big number = if big then to_be_bytes w16 number else to_le_bytes w16 number

-- 32 bits as bytes
abbrev pub word_bytes : Bool → ℕ → List ℕ
word_bytes big number = if big then to_be_bytes w32 number else to_le_bytes w32 number
