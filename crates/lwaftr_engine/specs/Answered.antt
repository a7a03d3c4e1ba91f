-- What reading a table file says of the file, and whether it failed.
use Rattle.std.specs.Prelude.{Bool, Err, List, None, Ok, Option, Result, Some, codes, false, length, take, true, ℕ, ◌++◌, ◌≡◌, ◌≤◌}
use Rattle.std.specs.Option.{option_map}
use Rattle.lwaftr_engine.specs.Words.{NoTable, Status, TableOf, V6}
use Rattle.lwaftr_engine.specs.Questions.{IsAddressLine}
use Rattle.lwaftr_engine.specs.declared.status.Status.TheVariants as status
use Rattle.lwaftr_engine.specs.declared.table_file.NoTable.TheVariants as none

-- the bytes are refused with this cause, if that is why there is no table
abbrev pub IsNoTable : List ℕ → NoTable → Type 0
IsNoTable bytes (none.Refused refusal) = TableOf bytes (Err refusal)
IsNoTable bytes none.ReadFault = Unit {0}
IsNoTable bytes none.OutOfMemory = Unit {0}

-- whether a read of the file failed, by the answer
abbrev pub is_unread : {T : Type 0} → Result T NoTable → Bool
is_unread (Ok _) = false
is_unread (Err none.ReadFault) = true
is_unread (Err (none.Refused _)) = false
is_unread (Err none.OutOfMemory) = false

-- the line of an owner, if there is one
abbrev pub IsOwnerText : Option V6 → List ℕ → Type 0
IsOwnerText None line = line ≡ codes "none\n"
IsOwnerText (Some b4) line = IsAddressLine b4 line

-- what is put of a line, by the status
abbrev pub Puts : Status → List ℕ → Option (List ℕ) → Option (List ℕ) → Type 0
Puts status.Done line said now = now ≡ option_map (λ taken. taken ++ line) said
Puts status.WriteFault line said now = (count : ℕ) × (count ≤ length line) × (now ≡ option_map (λ taken. taken ++ take count line) said)
Puts status.OutOfMemory line said now = (count : ℕ) × (count ≤ length line) × (now ≡ option_map (λ taken. taken ++ take count line) said)
Puts _ line said now = ⊥

-- a put failed, by the status
abbrev pub is_unput : Status → Bool
is_unput status.WriteFault = true
is_unput _ = false
