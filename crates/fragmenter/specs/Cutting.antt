-- Data cut in order into parts that fit (RFC 791, section 3.2; RFC 8200, section 4.5).
use Rattle.std.specs.Prelude.{◌≡◌, ℕ, zero, suc, ◌+◌, ◌<◌, ◌≤◌, nat_lt, Bool, true, false, if◌then◌else◌, List, [], ◌∷◌, ◌++◌, length, take, drop}
use Rattle.std.specs.List.{concat}

-- how many bytes a part may have: the last one at most so many, and one that others follow just so many
pub record Room : Type 0 where
  pub last : ℕ
  pub middle : ℕ

-- one part, before what comes after it: it is the last exactly where all that is left fits
pub record IsPart (room : Room) (part after : List ℕ) : Type 0 where
  pub some : 1 ≤ length part
  pub last : length part + length after ≤ room.last → after ≡ []
  pub middle : room.last < length part + length after → length part ≡ room.middle

-- each part fits; the room of a part is that of the place where it begins
abbrev pub AreParts : (ℕ → Room) → ℕ → List (List ℕ) → Type 0
AreParts room before [] = Unit {0}
AreParts room before (part ∷ rest) = IsPart (room before) part (concat rest) × AreParts room (before + length part) rest

abbrev pub are_there : List (List ℕ) → Bool
are_there [] = false
are_there (part ∷ rest) = true

-- the packets that carry the parts: `made before more part` carries the part that begins at the place `before`, and says
-- whether more parts follow
abbrev pub packets_of : (ℕ → Bool → List ℕ → List ℕ) → ℕ → List (List ℕ) → List (List ℕ)
packets_of made before [] = []
packets_of made before (part ∷ rest) = made before (are_there rest) part ∷ packets_of made (before + length part) rest

-- packets that carry the data in order, in parts that fit
pub record AreCut (room : ℕ → Room) (made : ℕ → Bool → List ℕ → List ℕ) (whole : List ℕ) (list : List (List ℕ)) : Type 0 where
  pub parts : List (List ℕ)
  pub joined : concat parts ≡ whole
  pub fit : AreParts room 0 parts
  pub packets : list ≡ packets_of made 0 parts

-- The only such parts: what is left, where it fits, and else as much as a part that others follow has, and the parts of the
-- rest. There are no more parts than bytes, so the count of them never runs out.
abbrev pub parts_within : ℕ → (ℕ → Room) → ℕ → List ℕ → List (List ℕ)
parts_within zero room before left = []
parts_within (suc parts) room before [] = []
parts_within (suc parts) room before (byte ∷ bytes) =
    if nat_lt (room before).last (length (byte ∷ bytes)) then
    take (room before).middle (byte ∷ bytes)
    ∷ parts_within parts room (before + (room before).middle) (drop (room before).middle (byte ∷ bytes))
    else (byte ∷ bytes) ∷ []

abbrev pub pieces_of : (ℕ → Room) → (ℕ → Bool → List ℕ → List ℕ) → ℕ → List ℕ → List (List ℕ)
pieces_of room made before left = packets_of made before (parts_within (length left) room before left)

-- how many bytes the next part of what is left has
abbrev pub part_len : Room → List ℕ → ℕ
part_len room left = if nat_lt room.last (length left) then room.middle else length left

-- the packet that is written next, and that others may follow
pub record HasFirst (list : List (List ℕ)) (len : ℕ) : Type 0 where
  pub first : List ℕ
  pub rest : List (List ℕ)
  pub is : list ≡ first ∷ rest
  pub len_is : length first ≡ len

-- the first of the packets that were left is written behind what stood there
pub record IsWritten (were are : List (List ℕ)) (before after : List ℕ) : Type 0 where
  pub first : List ℕ
  pub is : were ≡ first ∷ are
  pub written : after ≡ before ++ first
