-- What is written when all of a list is handed on, piece by piece.
use Rattle.std.specs.Prelude.{◌≡◌, ℕ, ◌≤◌, List, ◌++◌, length, take, Option, Result, Ok, Err}
use Rattle.std.specs.Option.{option_map}
use Rattle.aftr_io.specs.declared.outside.Fault.{Fault}
use Rattle.aftr_io.specs.Contents.{Contents, content, Moves, Writes}

-- all bytes are put behind what the file held; after an error only the first few of them, or none
abbrev pub AppendedAll : Result Unit Fault → Option Contents → Option Contents → List ℕ → List ℕ → Type 0
AppendedAll (Ok _) old new name bytes = Moves old new (λ m n. Writes m n name (content m name ++ bytes))
AppendedAll (Err _) old new name bytes = Moves old new (λ m n. (count : ℕ) × (count ≤ length bytes) × Writes m n name (content m name ++ take count bytes))

-- all bytes are taken; after an error only the first few of them, or none
abbrev pub TookAll : Result Unit Fault → Option (List ℕ) → Option (List ℕ) → List ℕ → Type 0
TookAll (Ok _) old new bytes = new ≡ option_map (λ taken. taken ++ bytes) old
TookAll (Err _) old new bytes = (count : ℕ) × (count ≤ length bytes) × (new ≡ option_map (λ taken. taken ++ take count bytes) old)
