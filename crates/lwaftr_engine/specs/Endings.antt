-- What a run leaves, by how the reading ended: `inputs` is what the files hold that are read, `old` and `new` what those hold that are written.
use Rattle.std.specs.Prelude.{All, Bool, Err, List, None, Ok, Option, Some, map, true, ℕ, [], ◌++◌, ◌<◌, ◌∷◌, ◌≡◌, ◌≤◌}
use Rattle.std.specs.List.{Contains}
use Rattle.lwaftr_engine.specs.Words.{BindingTable, CaptureBad, Contents, HistoryValue, Rec, RunJob, Slot, TableOf, Window, content}
use Rattle.lwaftr_engine.specs.Inputs.{Header, IsInput, header_of}
use Rattle.lwaftr_engine.specs.Runs.{IsRun}
use Rattle.lwaftr_engine.specs.Tables.{Answer, AreAnswers, slots_in, some_refused, table_by, windows_in}

-- the table files of the run say this
pub record AreTables (run : RunJob) (m : Contents) (first : BindingTable) (answers : List Answer) : Type 0 where
  pub table : TableOf (content m run.table) (Ok first)
  pub loads : AreAnswers m run.loads answers

-- the names of the table files
abbrev pub table_names : RunJob → List (List ℕ)
table_names run = run.table ∷ map (λ load. load.name) run.loads

-- the first record, if there is one, ends behind a place
abbrev pub IsBehind : ℕ → List Rec → Type 0
IsBehind place [] = Unit {0}
IsBehind place (r ∷ rs) = place < r.next_at

-- a run of all whole records of the capture, which ends so
pub record IsWhole (run : RunJob) (tables : ℕ → BindingTable) (windows : List Window) (slots : List Slot) (inputs old new : Contents) (said now : Option (List ℕ))
    (history : Option HistoryValue) (ending : Option CaptureBad) : Type 0 where
  pub header : Header
  pub records : List Rec
  pub capture : IsInput (content inputs run.input) header records ending
  pub is_run : IsRun run tables windows slots header.form header.written records old new said now history

-- Of the records that are there behind some place, these are those that end at or before the place of a read of the file that failed:
-- the next one, if there is one, ends behind it.
pub record AreBefore (AreThere : List Rec → Option CaptureBad → Type 0) (name : List ℕ) (start : ℕ) (rs : List Rec) (last : Option (List ℕ × ℕ)) : Type 0 where
  pub rest : List Rec
  pub ending : Option CaptureBad
  pub capture : AreThere (rs ++ rest) ending
  pub place : ℕ
  pub last_is : last ≡ Some (name, place)
  pub in_records : start ≤ place
  pub reached : All (λ r. r.next_at ≤ place) rs
  pub next : IsBehind place rest

-- a run cut short by a read that failed at a place of the capture behind its header: it took the records before it
pub record IsCut (run : RunJob) (tables : ℕ → BindingTable) (windows : List Window) (slots : List Slot) (inputs old new : Contents) (said now : Option (List ℕ))
    (history : Option HistoryValue) (last : Option (List ℕ × ℕ)) : Type 0 where
  pub header : Header
  pub taken : List Rec
  pub before : AreBefore (IsInput (content inputs run.input) header) run.input header.ends_at taken last
  pub is_run : IsRun run tables windows slots header.form header.written taken old new said now history

-- a run of all whole records under the tables of its files; some load was refused, or none
pub record IsWholeRun (run : RunJob) (inputs old new : Contents) (said now : Option (List ℕ)) (history : Option HistoryValue) (ending : Option CaptureBad)
    (refused : Bool) : Type 0 where
  pub first : BindingTable
  pub answers : List Answer
  pub tables : AreTables run inputs first answers
  pub some_load_refused : some_refused answers ≡ refused
  pub whole : IsWhole run (table_by first answers) (windows_in run.loads answers) (slots_in 0 answers) inputs old new said now history ending

-- a run cut short under the tables of its files
pub record IsCutRun (run : RunJob) (inputs old new : Contents) (said now : Option (List ℕ)) (history : Option HistoryValue) (last : Option (List ℕ × ℕ)) : Type 0 where
  pub first : BindingTable
  pub answers : List Answer
  pub tables : AreTables run inputs first answers
  pub cut : IsCut run (table_by first answers) (windows_in run.loads answers) (slots_in 0 answers) inputs old new said now history last

-- nothing was written: the files are as they were, and the sink took nothing; nothing came into force
pub record IsUntouched (old new : Contents) (said now : Option (List ℕ)) (history : Option HistoryValue) : Type 0 where
  pub files : new ≡ old
  pub sink : now ≡ said
  pub none : history ≡ None

-- The read that failed is one of a record, and of nothing else: the last place is one of the capture behind its header, the header
-- is sound, and no table is read from the capture's file.
pub record IsInRecords (run : RunJob) (inputs : Contents) (last : Option (List ℕ × ℕ)) : Type 0 where
  pub header : Header
  pub sound : header_of (content inputs run.input) ≡ Ok header
  pub place : ℕ
  pub last_is : last ≡ Some (run.input, place)
  pub has_end : header.has_end ≡ true
  pub behind : header.ends_at ≤ place
  pub apart : Contains (table_names run) run.input → ⊥

-- The first table is read before all else: where the read that failed is one of another file, the first table is accepted.
abbrev pub IsBehindTable : RunJob → Contents → Option (List ℕ × ℕ) → Type 0
IsBehindTable run inputs last = (name : List ℕ) (place : ℕ) → last ≡ Some (name, place) → (name ≡ run.table → ⊥) →
    (first : BindingTable) × TableOf (content inputs run.table) (Ok first)

-- A read failed before the outputs were made, and nothing was written.
pub record IsUnread (run : RunJob) (inputs old new : Contents) (said now : Option (List ℕ)) (history : Option HistoryValue) (last : Option (List ℕ × ℕ)) : Type 0 where
  pub kept : IsUntouched old new said now history
  pub early : IsInRecords run inputs last → ⊥
  pub behind_table : IsBehindTable run inputs last

-- the capture's header is refused under a table that is accepted, and nothing was written
pub record IsBadHeader (run : RunJob) (inputs old new : Contents) (said now : Option (List ℕ)) (history : Option HistoryValue) (refusal : CaptureBad) : Type 0 where
  pub first : BindingTable
  pub table : TableOf (content inputs run.table) (Ok first)
  pub header : header_of (content inputs run.input) ≡ Err refusal
  pub kept : IsUntouched old new said now history
