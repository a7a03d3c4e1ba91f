-- The laws of the layers below that the lemmas take, as the law functions state them.
use Rattle.lwaftr_engine.proofs.Words.{◌≡◌, ℕ, Bool, List, Option, Result, TableOf, FileRefused, BindingTable, Splits, CaptureBad, Rec}

-- a file has one answer as a table
abbrev pub OneAnswer : Type 0
OneAnswer = (bytes : List ℕ) (answer other : Result BindingTable FileRefused) → TableOf bytes answer → TableOf bytes other → answer ≡ other

-- bytes are split into records in one way
abbrev pub OneReading : Type 0
OneReading = (big : Bool) (left : List ℕ) (at number : ℕ) (rs others : List Rec) (ending other : Option CaptureBad) →
    Splits big left at number rs ending → Splits big left at number others other → (rs ≡ others) × (ending ≡ other)
