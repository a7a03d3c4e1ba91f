-- The two questions about a table file: is it valid, and who owns a port of an address. Each is answered by one line.
use Rattle.std.specs.Prelude.{Err, List, None, Ok, Option, Some, codes, decimal, length, take, ℕ, [], ◌++◌, ◌∷◌, ◌≡◌, ◌≤◌, ◌⊎◌}
use Rattle.std.specs.Option.{option_map}
use Rattle.lwaftr_engine.specs.Words.{Binding, BindingTable, Contents, FileRefused, HistoryValue, IsCanonical, IsValid, Status, TableOf, Told, V4, V6, bound}
use Rattle.lwaftr_engine.specs.Words.{content, groups_of}
use Rattle.binding_rules.specs.declared.binding.Want.TheVariants as want
use Rattle.lwaftr_engine.specs.Causes.{HasOneCause, NothingFailed}
use Rattle.lwaftr_engine.specs.Worlds.{World}
use Rattle.lwaftr_engine.specs.declared.status.Status.TheVariants as status

-- the line of a valid file with so many bindings
abbrev pub valid_text : ℕ → List ℕ
valid_text count = codes "valid " ++ decimal count ++ codes " bindings\n"

-- `check`: the line says how many bindings the table has
abbrev pub IsValidLine : BindingTable → List ℕ → Type 0
IsValidLine t line = line ≡ valid_text (length t.bindings)

-- the address in its canonical text (RFC 5952, section 4), and a line feed
abbrev pub IsAddressLine : V6 → List ℕ → Type 0
IsAddressLine b4 line = (text : List ℕ) × IsCanonical text (groups_of b4.0) × (line ≡ text ++ codes "\n")

-- the line of the one owner, if there is one: the end of its tunnel, or `none`
abbrev pub NamesOwner : List Binding → List ℕ → Type 0
NamesOwner [] line = line ≡ codes "none\n"
NamesOwner (b ∷ []) line = IsAddressLine b.b4 line
NamesOwner (b ∷ c ∷ bs) line = ⊥

-- `who`: the line names the owner of the port of the address (RFC 7597, section 5.1)
abbrev pub IsOwnerLine : V4 → ℕ → BindingTable → List ℕ → Type 0
IsOwnerLine v4 port t line = NamesOwner (bound t.bindings v4 (want.Port port)) line

-- The line that a question asks for, of the table that the file spells. Where what files hold is not told, it is that of some
-- valid table.
pub record IsLineOf (Asks : BindingTable → List ℕ → Type 0) (held : Option Contents) (name line : List ℕ) : Type 0 where
  pub table : BindingTable
  pub valid : IsValid table
  pub spelled : Told held (λ m. TableOf (content m name) (Ok table))
  pub asked : Asks table line

-- the sink took such a line
abbrev pub TookLine : (List ℕ → Type 0) → Option (List ℕ) → Option (List ℕ) → Type 0
TookLine IsLine said now = (line : List ℕ) × IsLine line × (now ≡ option_map (λ taken. taken ++ line) said)

-- the sink took the first few bytes of such a line
abbrev pub TookFront : (List ℕ → Type 0) → Option (List ℕ) → Option (List ℕ) → Type 0
TookFront IsLine said now = (line : List ℕ) × IsLine line × (count : ℕ) × (count ≤ length line) × (now ≡ option_map (λ taken. taken ++ take count line) said)

-- What the sink took of the line, by the status: all of it and no more, its first few bytes, or nothing. No other status comes.
abbrev pub Answers : (List ℕ → Type 0) → Status → Option (List ℕ) → Option (List ℕ) → Type 0
Answers IsLine status.Done said now = TookLine IsLine said now
Answers IsLine status.WriteFault said now = TookFront IsLine said now
Answers IsLine status.OutOfMemory said now = (now ≡ said) ⊎ TookFront IsLine said now
Answers IsLine status.ReadFault said now = now ≡ said
Answers IsLine (status.BadTable refusal) said now = now ≡ said
Answers IsLine _ said now = ⊥

-- `BadTable` comes exactly where the file is refused, and with its cause, unless a read failed or the allocator had no room
abbrev pub RefusesAs : List ℕ → Status → Type 0
RefusesAs bytes result = (refusal : FileRefused) →
    (result ≡ status.BadTable refusal → TableOf bytes (Err refusal))
    × (TableOf bytes (Err refusal) → (result ≡ status.BadTable refusal) ⊎ ((result ≡ status.ReadFault) ⊎ (result ≡ status.OutOfMemory)))

-- a file that is accepted is answered, where nothing of the outside fails and the allocator has room
abbrev pub IsComplete : List ℕ → Status → World → World → Type 0
IsComplete bytes result before now = (t : BindingTable) → TableOf bytes (Ok t) → NothingFailed before now →
    (result ≡ status.Done) ⊎ (result ≡ status.OutOfMemory)

-- at `ReadFault` the last read that failed is one of the file, and at every other status no read failed
abbrev pub FailedIn : List ℕ → Status → Option (List ℕ × ℕ) → Option (List ℕ × ℕ) → Type 0
FailedIn name status.ReadFault old new = (place : ℕ) × (new ≡ Some (name, place))
FailedIn name _ old new = new ≡ old

-- What a question about a file leaves: every name holds what it held, and the sink took the line.
pub record KeepsQuestion (Asks : BindingTable → List ℕ → Type 0) (name : List ℕ) (result : Status) (before now : World)
    (history : Option HistoryValue) : Type 0 where
  pub read_kept : now.reading.held ≡ before.reading.held
  -- no file is made or written to
  pub kept : now.writing ≡ before.writing
  pub line : Answers (λ line. IsLineOf Asks before.reading.held name line) result before.said now.said
  pub refused : Told before.reading.held (λ m. RefusesAs (content m name) result)
  pub cause : HasOneCause result before now
  pub failed_read : FailedIn name result before.reading.last now.reading.last
  pub complete : Told before.reading.held (λ m. IsComplete (content m name) result before now)
  pub none : history ≡ None
