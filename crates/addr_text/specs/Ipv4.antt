-- The text of an IPv4 address.
use Rattle.std.specs.Prelude.{◌≡◌, ℕ, ◌<◌, ◌/◌, ◌%◌, ◌^◌, List, ◌++◌, codes, decimal}

-- Four decimal numbers joined by dots: the bytes of the address, the highest first. `decimal` writes no leading zero, no sign
-- and no blank.
abbrev pub v4_text : ℕ → List ℕ
v4_text a =
    decimal (a / 2 ^ 24) ++ codes "." ++ decimal (a / 2 ^ 16 % 256) ++ codes "."
    ++ decimal (a / 2 ^ 8 % 256) ++ codes "." ++ decimal (a % 256)

-- the text spells the address
pub record IsV4Text (text : List ℕ) (a : ℕ) : Type 0 where
  pub fits : a < 2 ^ 32
  pub spelled : text ≡ v4_text a
