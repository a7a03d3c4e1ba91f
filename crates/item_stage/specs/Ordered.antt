-- Numbers in order.
use Rattle.std.specs.Prelude.{ℕ, if◌then◌else◌, nat_le, List, [], ◌∷◌}

-- a number among numbers that ascend
abbrev pub put_in : ℕ → List ℕ → List ℕ
put_in number [] = number ∷ []
put_in number (least ∷ rest) = if nat_le number least then number ∷ least ∷ rest else least ∷ put_in number rest

-- the numbers, ascending
abbrev pub ascending : List ℕ → List ℕ
ascending [] = []
ascending (number ∷ rest) = put_in number (ascending rest)
