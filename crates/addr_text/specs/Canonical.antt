-- The canonical text of an IPv6 address (RFC 5952, section 4).
use Rattle.std.specs.Prelude.{◌≡◌, ℕ, ◌+◌, ◌≤◌, ◌/◌, ◌%◌, ◌^◌, false, List, [], ◌∷◌, ◌++◌, length}
use Rattle.std.specs.Prelude.{take, drop, replicate, flat_map, codes, nat_lt, if◌then◌else◌}
use Rattle.std.specs.Fmt.{digits}

-- the groups of an address, the highest first
unfoldable pub groups_of : ℕ → List ℕ
groups_of a =
    a / 2 ^ 112 ∷ a / 2 ^ 96 % 2 ^ 16 ∷ a / 2 ^ 80 % 2 ^ 16 ∷ a / 2 ^ 64 % 2 ^ 16
    ∷ a / 2 ^ 48 % 2 ^ 16 ∷ a / 2 ^ 32 % 2 ^ 16 ∷ a / 2 ^ 16 % 2 ^ 16 ∷ a % 2 ^ 16 ∷ []

-- a group in hexadecimal, lower case (4.3), without leading zeros (4.1)
abbrev pub group_text : ℕ → List ℕ
group_text g = digits 16 false g

-- groups with colons between them
abbrev pub groups_text : List ℕ → List ℕ
groups_text [] = []
groups_text (g ∷ gs) = group_text g ++ flat_map (λ h. codes ":" ++ group_text h) gs

-- `count` groups from `start` on are zero
abbrev pub IsZeroRun : List ℕ → ℕ → ℕ → Type 0
IsZeroRun groups start count = (start + count ≤ length groups) × (take count (drop start groups) ≡ replicate count 0)

-- the text of groups in which `::` stands for those of a run, where they are two or more (4.2.2)
abbrev pub text_without : List ℕ → ℕ → ℕ → List ℕ
text_without groups start count =
    if nat_lt count 2 then groups_text groups
    else groups_text (take start groups) ++ codes "::" ++ groups_text (drop (start + count) groups)

-- `::` stands for the longest run of zero groups (4.2.1), and of equal ones for the first (4.2.3).
pub record IsCanonical (text groups : List ℕ) : Type 0 where
  pub start : ℕ
  pub count : ℕ
  pub run : IsZeroRun groups start count
  pub longest : (s n : ℕ) → IsZeroRun groups s n → n ≤ count
  pub first : (s : ℕ) → IsZeroRun groups s count → start ≤ s
  pub spelled : text ≡ text_without groups start count
