-- What is true of the parts of a context.
use Rattle.std.specs.Prelude.{◌≡◌, ℕ, ◌+◌, ◌-◌, ◌<◌, ◌≤◌, ◌==◌, nat_lt, not, ◌&&◌, Bool, true, List, length, get_or, sum_by}
use Rattle.reassembly_lane.specs.declared.parts.Part.{Part}
use Rattle.reassembly_lane.specs.Parts.{start, past, clash, no_part}

abbrev pub part_at : List Part → ℕ → Part
part_at parts index = get_or parts index no_part

-- the place for a part of this offset among parts that ascend
pub record IsPlace (parts : List Part) (offset place : ℕ) : Type 0 where
  pub within : place ≤ length parts
  pub before : 0 < place → (part_at parts (place - 1)).offset < offset
  pub behind : place < length parts → offset ≤ (part_at parts place).offset

-- A part has bytes, and ends within the longest datagram.
pub record IsSoundPart (part : Part) : Type 0 where
  pub filled : 0 < length part.body
  pub short : past part ≤ 65535

-- The parts ascend and do not overlap, and none but the last can be the datagram's last.
pub record IsSound (parts : List Part) : Type 0 where
  pub apart : (i j : ℕ) → i < j → j < length parts → past (part_at parts i) ≤ start (part_at parts j)
  pub filled : (i : ℕ) → i < length parts → 0 < length (part_at parts i).body
  pub short : (i : ℕ) → i < length parts → past (part_at parts i) ≤ 65535
  pub follows : (i : ℕ) → i + 1 < length parts → (part_at parts i).more ≡ true

-- how many bytes parts have
abbrev pub total_size : List Part → ℕ
total_size parts = sum_by (λ part. length part.body) parts

-- the part clashes with the one in front of its place, with the one at it
abbrev pub clash_in_front : List Part → ℕ → Part → Bool
clash_in_front parts place part = not (place == 0) && clash part (part_at parts (place - 1))

abbrev pub clash_behind : List Part → ℕ → Part → Bool
clash_behind parts place part = nat_lt place (length parts) && clash part (part_at parts place)
