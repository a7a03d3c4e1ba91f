-- Where the words stand: the version word, the claims on area 0 and on area 1, the rows of the two areas, in this order. All of
-- it is ours. Processors hand memory over in lines of 64 bytes and often fetch two of them at once. So between words of two parts
-- there are always 128 bytes, wherever the words begin: who writes to one part takes no line away from those who use another,
-- and nothing beside the words shares a line with a part. The words between are not used.
use Rattle.std.specs.Prelude.{◌≢◌, ℕ, ◌+◌, ◌*◌, ◌<◌, ◌≤◌, ◌⊎◌}

-- so many words of 8 bytes are 128 bytes
abbrev pub gap : ℕ
gap = 16

abbrev pub version_place : ℕ
version_place = gap

-- the claims on area a
abbrev pub claims_place : ℕ → ℕ
claims_place a = (2 + a) * gap

-- where the row of area a begins, if rows have so many words
abbrev pub row_place : ℕ → ℕ → ℕ
row_place long a = 4 * gap + a * (long + gap)

-- how many words there are
abbrev pub all_places : ℕ → ℕ
all_places long = 4 * gap + 2 * (long + gap)

-- what a word is for: the version and the records, the claims on area a, or word j of the row of area a
pub data Role : Type 0 where
  TheVersion : Role
  ClaimsOn : ℕ → Role
  RowWord : ℕ → ℕ → Role

abbrev pub IsRole : ℕ → Role → Type 0
IsRole long TheVersion = Unit {0}
IsRole long (ClaimsOn a) = a < 2
IsRole long (RowWord a j) = (a < 2) × (j < long)

abbrev pub place : ℕ → Role → ℕ
place long TheVersion = version_place
place long (ClaimsOn a) = claims_place a
place long (RowWord a j) = row_place long a + j

-- the first word of the part that a word belongs to: a row is one part
abbrev pub part : Role → Role
part (RowWord a j) = RowWord a 0
part r = r

-- Two words of different parts have at least 128 bytes from one to the other; so much lies before the first word that is used
-- and behind the last.
pub record PartsAreApart (long : ℕ) : Type 0 where
  pub apart : (r s : Role) → IsRole long r → IsRole long s → part r ≢ part s
      → (place long r + gap ≤ place long s) ⊎ (place long s + gap ≤ place long r)
  pub before : (r : Role) → IsRole long r → gap ≤ place long r
  pub behind : (r : Role) → IsRole long r → place long r + gap < all_places long
