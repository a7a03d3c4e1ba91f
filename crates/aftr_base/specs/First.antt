-- The first true one of a list of conditions. A codec's refusals are told by it: which of them are true is a matter of
-- the bytes alone, and the order of the list says which one is answered.
use Rattle.std.specs.Prelude.{Bool, List, [], ◌∷◌, Option, Some, None, Result, Ok, Err, if◌then◌else◌}

abbrev pub first_true : {A : Type 0} → List (Bool × A) → Option A
first_true [] = None
first_true (r ∷ rs) = if r.0 then Some r.1 else first_true rs

-- the refusal, if there is one, and else this value
abbrev pub refused_or : {A B : Type 0} → Option A → B → Result B A
refused_or (Some bad) good = Err bad
refused_or None good = Ok good
