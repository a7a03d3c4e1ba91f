-- Lemmas on the members of a list, and on what is said of an option.
use Rattle.std.proofs.Common.{◌≡◌, suc, false, List, ◌∷◌, Contains, Option, Some, None, refl, arith}
use Rattle.std.specs.Prelude.{is_some, IfNone}
use Rattle.std.proofs.lemmas.Bool.{true≢false}

pub contains_after : {X : Type 0} (x : X) (xs : List X) (y : X) → Contains xs y → Contains (x ∷ xs) y
contains_after x xs y h = (suc h.0, omega (arith, h.1), h.2)

pub contains_front : {X : Type 0} (x : X) (xs : List X) → Contains (x ∷ xs) x
contains_front x xs = (0, omega arith, refl)

-- what holds where there is no value, at an option whose test says that there is none
pub when_none : {X : Type 0} (o : Option X) (P : Type 0) → is_some o ≡ false → IfNone o P → P
when_none None P e h = h
when_none (Some x) P e h = absurd (true≢false e)
