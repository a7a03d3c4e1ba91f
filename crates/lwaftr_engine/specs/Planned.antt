-- What the parts of a run's job are told, and what they leave.
use Rattle.std.specs.Prelude.{All, Bool, Err, IfSome, List, None, Ok, Option, Result, Some, count_by, false, if◌then◌else◌, length, true, ℕ, [], ◌+◌, ◌∷◌}
use Rattle.std.specs.Prelude.{◌≡◌, ◌≤◌, ◌⊎◌}
use Rattle.lwaftr_engine.specs.Words.{AreApart, AreRising, BindingTable, CaptureBad, CaptureError, Contents, Ending, Fault, Form, HistoryValue, IsCompiled}
use Rattle.lwaftr_engine.specs.Words.{IsLoad, IsRate, IsWorkers, Load, Made, Rec, RunJob, Slot, Status, Tables, Window, Written, accepted, content}
use Rattle.lwaftr_engine.specs.Words.{slots_from, windows_of}
use Rattle.aftr_io.specs.declared.outside.Fault.TheVariants as fault
use Rattle.capture_io.specs.declared.forms.CaptureError.TheVariants as failure
use Rattle.capture_io.specs.declared.rounds.Ending.TheVariants as ending
use Rattle.lwaftr_engine.specs.Causes.{NoneOfFilesRose}
use Rattle.lwaftr_engine.specs.Endings.{IsCut, IsUntouched, IsWhole}
use Rattle.lwaftr_engine.specs.Fronts.{IsBroken, Stop, is_table, stop_by}
use Rattle.lwaftr_engine.specs.Inputs.{Header, IsInput, header_of}
use Rattle.lwaftr_engine.specs.Progress.{Setup, Spot}
use Rattle.lwaftr_engine.specs.Runs.{IsPlanOf}
use Rattle.lwaftr_engine.specs.Worlds.{World}
use Rattle.lwaftr_engine.specs.declared.status.Status.TheVariants as status
use Rattle.reload_plan.specs.declared.loads.Slot.TheVariants as slot

-- what is known of a run that words asked for
pub record IsRunJob (run : RunJob) : Type 0 where
  pub loads : All IsLoad run.loads
  pub few : length run.loads ≤ 255
  pub apart : AreApart run
  pub rising : AreRising (windows_of run.loads)
  pub workers : IsWorkers run.workers
  pub errors : IfSome run.errors IsRate

-- the plan of a first table and of loads
pub record IsMade (first : BindingTable) (loads : List Load) (made : Made) : Type 0 where
  pub words : List ℕ
  pub compiled : IsCompiled first words
  pub plan : made.plan ≡ accepted words loads
  pub slots : made.slots ≡ slots_from 0 loads

abbrev pub some_slot_refused : List Slot → Bool
some_slot_refused [] = false
some_slot_refused (slot.Version version ∷ slots) = some_slot_refused slots
some_slot_refused (slot.Refused cause ∷ slots) = true

abbrev pub unopened_status : CaptureError → Status
unopened_status (failure.Bad refusal) = status.BadCapture refusal
unopened_status failure.ReadFault = status.ReadFault
unopened_status failure.OutOfMemory = status.OutOfMemory

abbrev pub done_status : Bool → Status
done_status refused = if refused then status.DoneRefused else status.Done

abbrev pub ended_status : Result Ending Fault → Bool → Status
ended_status (Ok ending.End) refused = done_status refused
ended_status (Ok (ending.Bad refusal)) refused = status.BadCapture refusal
ended_status (Ok ending.ReadFault) refused = status.ReadFault
ended_status (Err fault.Failed) refused = status.WriteFault
ended_status (Err fault.OutOfMemory) refused = status.OutOfMemory

-- A reader that was opened: it stands in these bytes behind their header, and what is left is all of the capture.
pub record IsAtFirst (reader : Spot) (form : Form) (written : Written) (bytes : List ℕ) : Type 0 where
  pub header : Header
  pub sound : header_of bytes ≡ Ok header
  pub form_is : form ≡ header.form
  pub written_is : written ≡ header.written
  pub at_is : reader.at ≡ header.ends_at
  pub stands : reader.stood bytes
  pub all : (rs : List Rec) (e : Option CaptureBad) → reader.left bytes 0 rs e → IsInput bytes header rs e

-- a read of the capture's file failed, but not one of a record
abbrev pub IsEarly : List ℕ → List ℕ → Option (List ℕ × ℕ) → Type 0
IsEarly name bytes last = (header : Header) (place : ℕ) → header_of bytes ≡ Ok header → last ≡ Some (name, place) → header.has_end ≡ true →
    header.ends_at ≤ place → ⊥

-- the versions of the loads are counted from one, behind so many that are tables
abbrev pub AreNumbered : ℕ → List Slot → Type 0
AreNumbered before [] = Unit {0}
AreNumbered before (slot.Version version ∷ slots) = (version ≡ before + 1) × AreNumbered (before + 1) slots
AreNumbered before (slot.Refused cause ∷ slots) = AreNumbered before slots

-- what became of the loads, and the windows of those that are tables
pub record AreSlotsOf (run : RunJob) (windows : List Window) (slots : List Slot) : Type 0 where
  pub numbered : AreNumbered 0 slots
  pub windows_are : length windows ≡ count_by is_table slots
  pub loads_are : length slots ≡ length run.loads

-- the run was ended by a fault, and there is no history
abbrev pub IsStopped : RunJob → (ℕ → BindingTable) → List Window → List Slot → Stop → Option HistoryValue → Contents → Contents → Contents → Type 0
IsStopped run tables windows slots stop history inputs old new =
    (AreSlotsOf run windows slots → IsBroken run tables windows slots inputs old new stop) × (history ≡ None)

-- what a run leaves under tables that were read, by its status
abbrev pub LeavesBy : RunJob → (ℕ → BindingTable) → List Window → List Slot → Status → World → World → Option HistoryValue → Contents → Contents → Contents → Type 0
LeavesBy run tables windows slots status.Done before now history inputs old new =
    IsWhole run tables windows slots inputs old new before.said now.said history None × (some_slot_refused slots ≡ false)
LeavesBy run tables windows slots status.DoneRefused before now history inputs old new =
    IsWhole run tables windows slots inputs old new before.said now.said history None × (some_slot_refused slots ≡ true)
LeavesBy run tables windows slots (status.BadCapture refusal) before now history inputs old new =
    IsWhole run tables windows slots inputs old new before.said now.said history (Some refusal)
    ⊎ ((header_of (content inputs run.input) ≡ Err refusal) × IsUntouched old new before.said now.said history)
LeavesBy run tables windows slots status.ReadFault before now history inputs old new =
    IsCut run tables windows slots inputs old new before.said now.said history now.reading.last
    ⊎ (IsEarly run.input (content inputs run.input) now.reading.last × IsUntouched old new before.said now.said history)
LeavesBy run tables windows slots status.WriteFault before now history inputs old new =
    IsStopped run tables windows slots (stop_by fault.Failed before now) history inputs old new
LeavesBy run tables windows slots status.OutOfMemory before now history inputs old new =
    (IsUntouched old new before.said now.said history × NoneOfFilesRose before now)
    ⊎ IsStopped run tables windows slots (stop_by fault.OutOfMemory before now) history inputs old new
LeavesBy run tables windows slots _ before now history inputs old new = ⊥

-- under every list of tables of which the plan's words are
abbrev pub LeavesMade : RunJob → Tables → List Slot → Status → World → World → Option HistoryValue → Contents → Contents → Contents → Type 0
LeavesMade run plan slots result before now history inputs old new = (tables : ℕ → BindingTable) (windows : List Window) → IsPlanOf tables windows plan →
    LeavesBy run tables windows slots result before now history inputs old new

-- the same from the opening of its outputs on, where the reader stands before the first record
abbrev pub LeavesOpened : Setup → Tables → Spot → Result Ending Fault → World → World → Option HistoryValue → Contents → Contents → Contents → Type 0
LeavesOpened x plan reader ended before now history inputs old new = IsAtFirst reader x.form x.written (content inputs x.run.input) →
    LeavesMade x.run plan x.slots (ended_status ended (some_slot_refused x.slots)) before now history inputs old new
