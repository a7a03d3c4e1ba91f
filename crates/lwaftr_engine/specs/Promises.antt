-- The promises of the program's call on a run.
use Rattle.std.specs.Prelude.{Bool, Err, List, None, Ok, Option, Some, false, length, true, ℕ, [], ◌++◌, ◌∷◌, ◌≡◌, ◌⊎◌}
use Rattle.std.specs.Option.{option_map}
use Rattle.lwaftr_engine.specs.Words.{BindingTable, CaptureBad, Contents, HistoryValue, IsHistory, IsOfHeader, IsOfRecord, Moves, Rec, RunJob, Status}
use Rattle.lwaftr_engine.specs.Words.{TableOf, Told, Totals, content, summary_text}
use Rattle.aftr_io.specs.declared.outside.Fault.TheVariants as fault
use Rattle.lwaftr_engine.specs.Causes.{FailsBehind, FailsIn, HasCause, IsFault, NoneOfFilesRose}
use Rattle.lwaftr_engine.specs.Endings.{AreTables, IsBadHeader, IsCutRun, IsUnread, IsUntouched, IsWholeRun, table_names}
use Rattle.lwaftr_engine.specs.Fronts.{IsBrokenRun, stop_by}
use Rattle.lwaftr_engine.specs.Inputs.{Header, IsInput, header_of}
use Rattle.lwaftr_engine.specs.Runs.{OthersKept}
use Rattle.lwaftr_engine.specs.Tables.{Answer, some_refused}
use Rattle.lwaftr_engine.specs.Worlds.{World}
use Rattle.lwaftr_engine.specs.declared.status.Status.TheVariants as status

-- What the files hold at a status, what the sink took, and the history: `inputs` is what the files hold that are read, `old` and `new` what
-- those hold that are written.
abbrev pub Leaves : RunJob → Status → World → World → Option HistoryValue → Contents → Contents → Contents → Type 0
Leaves run status.Done before now history inputs old new = IsWholeRun run inputs old new before.said now.said history None false
Leaves run status.DoneRefused before now history inputs old new = IsWholeRun run inputs old new before.said now.said history None true
Leaves run (status.BadCapture refusal) before now history inputs old new =
    ((refused : Bool) × IsWholeRun run inputs old new before.said now.said history (Some refusal) refused)
    ⊎ IsBadHeader run inputs old new before.said now.said history refusal
Leaves run status.ReadFault before now history inputs old new =
    IsCutRun run inputs old new before.said now.said history now.reading.last ⊎ IsUnread run inputs old new before.said now.said history now.reading.last
Leaves run (status.BadTable refusal) before now history inputs old new =
    TableOf (content inputs run.table) (Err refusal) × IsUntouched old new before.said now.said history
Leaves run status.WriteFault before now history inputs old new = IsBrokenRun run inputs old new (stop_by fault.Failed before now) history
Leaves run status.OutOfMemory before now history inputs old new =
    (IsUntouched old new before.said now.said history × NoneOfFilesRose before now)
    ⊎ IsBrokenRun run inputs old new (stop_by fault.OutOfMemory before now) history
Leaves run status.Usage before now history inputs old new = ⊥

-- The status that the table files and the capture ask for, whatever the outside does: the first table's refusal, else the
-- capture's, else `DoneRefused` where a load is refused, else `Done`.
pub record AsksDone (run : RunJob) (m : Contents) (some : Bool) : Type 0 where
  pub first : BindingTable
  pub answers : List Answer
  pub tables : AreTables run m first answers
  pub some_is : some_refused answers ≡ some
  pub header : Header
  pub records : List Rec
  pub capture : IsInput (content m run.input) header records None

-- the capture is refused with this cause: its header, or what stands behind its last whole record
abbrev pub Refuses : List ℕ → CaptureBad → Type 0
Refuses bytes refusal = (header_of bytes ≡ Err refusal) ⊎ ((header : Header) × (rs : List Rec) × IsInput bytes header rs (Some refusal))

abbrev pub IsAskedFor : RunJob → Contents → Status → Type 0
IsAskedFor run m (status.BadTable refusal) = TableOf (content m run.table) (Err refusal)
IsAskedFor run m (status.BadCapture refusal) =
    ((first : BindingTable) × TableOf (content m run.table) (Ok first)) × Refuses (content m run.input) refusal
IsAskedFor run m status.Done = AsksDone run m false
IsAskedFor run m status.DoneRefused = AsksDone run m true
IsAskedFor run m _ = ⊥

-- A history is one of closed areas, and the sink took its summary: as many records as were drawn in the areas, and the number of the
-- points as the last version.
pub record IsSummedUp (said now : Option (List ℕ)) (history : HistoryValue) : Type 0 where
  pub closed : IsHistory history
  pub totals : Totals
  pub took : now ≡ option_map (λ taken. taken ++ summary_text totals) said
  pub records : totals.records ≡ history.records
  pub version : totals.version ≡ length history.points

-- there is a history, with its summary
abbrev pub HasSummary : Option (List ℕ) → Option (List ℕ) → Option HistoryValue → Type 0
HasSummary said now (Some history) = IsSummedUp said now history
HasSummary said now None = ⊥

-- The capture is refused. Where there is a history, the refusal is one that a record can have; where there is none, it is one that a
-- file header can have, and the sink took nothing.
abbrev pub GoesWithRefusal : CaptureBad → Option (List ℕ) → Option (List ℕ) → Option HistoryValue → Type 0
GoesWithRefusal refusal said now (Some history) = IsOfRecord refusal × IsSummedUp said now history
GoesWithRefusal refusal said now None = IsOfHeader refusal × (now ≡ said)

-- A read failed. Where there is a history, it is one of the capture; where there is none, the sink took nothing.
abbrev pub GoesWithRead : List ℕ → Option (List ℕ × ℕ) → Option (List ℕ) → Option (List ℕ) → Option HistoryValue → Type 0
GoesWithRead input last said now (Some history) = ((place : ℕ) × (last ≡ Some (input, place))) × IsSummedUp said now history
GoesWithRead input last said now None = now ≡ said

-- Whatever the files tell, the history is there where all was done, and is not where nothing came into force or a fault of writing
-- or want of memory ended the run. Where the capture is refused or a read failed, it is there exactly where the sink took the
-- summary of the records before that; where the sink tells nothing, the refusal and the name of the read tell it as far as they can.
-- A run does not end with `Usage`.
abbrev pub HasHistory : List ℕ → Status → Option (List ℕ × ℕ) → Option (List ℕ) → Option (List ℕ) → Option HistoryValue → Type 0
HasHistory input status.Done last said now history = HasSummary said now history
HasHistory input status.DoneRefused last said now history = HasSummary said now history
HasHistory input (status.BadCapture refusal) last said now history = GoesWithRefusal refusal said now history
HasHistory input status.ReadFault last said now history = GoesWithRead input last said now history
HasHistory input (status.BadTable refusal) last said now history = (history ≡ None) × (now ≡ said)
HasHistory input status.Usage last said now history = ⊥
HasHistory input _ last said now history = history ≡ None

-- a run, and what it leaves
pub record KeepsRun (run : RunJob) (result : Status) (before now : World) (history : Option HistoryValue) : Type 0 where
  -- what the files hold, what the sink took, and the history
  pub files : Told before.reading.held (λ inputs. Moves before.writing.held now.writing.held (Leaves run result before now history inputs))
  -- what is read holds what it held, and of what is written other names do
  pub read_kept : now.reading.held ≡ before.reading.held
  pub others : Moves before.writing.held now.writing.held (OthersKept run)
  -- which status it is
  pub due : Told before.reading.held (λ inputs. Told before.writing.held (λ old. (s : Status) → IsAskedFor run inputs s → (result ≡ s) ⊎ IsFault result))
  pub cause : HasCause result before now
  pub failed_read : FailsIn (table_names run ++ run.input ∷ []) result before.reading.last now.reading.last
  pub capture_read : FailsBehind run.input result before.reading now.reading
  pub has_history : HasHistory run.input result now.reading.last before.said now.said history
