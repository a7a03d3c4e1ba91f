-- What the outputs hold where a run was ended by a file or a sink that cannot be written, or for want of memory.
use Rattle.std.specs.Prelude.{Bool, List, None, Ok, Option, count_by, false, if◌then◌else◌, length, nat_le, nat_lt, suc, take, true, ℕ, [], ◌++◌, ◌-◌, ◌<◌}
use Rattle.std.specs.Prelude.{◌∷◌, ◌≡◌, ◌⊎◌}
use Rattle.std.specs.Option.{option_map}
use Rattle.lwaftr_engine.specs.Words.{AreAllPoints, BindingTable, CaptureBad, Contents, Course, Fault, Form, HistoryValue, IsLimited, NamedSlot, Rec, Rises}
use Rattle.lwaftr_engine.specs.Words.{Rose, RunJob, Slot, Window, Written, content, entries_of, in_force, initial_text, named, output_of, slot_text}
use Rattle.lwaftr_engine.specs.Words.{summary_text, totals_of, verdicts_of, versions_of}
use Rattle.aftr_io.specs.declared.outside.Fault.TheVariants as fault
use Rattle.lwaftr_engine.specs.Endings.{AreBefore, AreTables}
use Rattle.lwaftr_engine.specs.Inputs.{Header, IsInput, header_of}
use Rattle.lwaftr_engine.specs.Runs.{OthersKept}
use Rattle.lwaftr_engine.specs.Tables.{Answer, slots_in, table_by, windows_in}
use Rattle.lwaftr_engine.specs.Worlds.{World}
use Rattle.reload_plan.specs.declared.loads.Slot.TheVariants as slot

-- the first bytes of these
abbrev pub IsFrontOf : List ℕ → List ℕ → Type 0
IsFrontOf whole part = (count : ℕ) × (part ≡ take count whole)

-- a file that was made holds a front of what is due, and one that was not is as before
abbrev pub HoldsFront : Bool → List ℕ → List ℕ → List ℕ → Type 0
HoldsFront true due old new = IsFrontOf due new
HoldsFront false due old new = new ≡ old

-- how many of the loads' lines, from the first one on, stand whole in so many bytes
abbrev pub whole_lines : List ℕ → ℕ → List NamedSlot → ℕ
whole_lines points size [] = 0
whole_lines points size (load ∷ loads) =
    if nat_le (length (slot_text points load.name load.slot)) size then suc (whole_lines points (size - length (slot_text points load.name load.slot)) loads)
    else 0

abbrev pub is_table : Slot → Bool
is_table (slot.Version version) = true
is_table (slot.Refused cause) = false

-- the points of the tables whose lines VERSIONS holds whole
abbrev pub told_points : RunJob → List Slot → List ℕ → List ℕ → List ℕ
told_points run slots points text =
    take (count_by is_table (take (whole_lines points (length text - length (initial_text run.table)) (named run.loads slots)) slots)) points

-- none where VERSIONS was not made
abbrev pub shown_points : Bool → RunJob → List Slot → List ℕ → List ℕ → List ℕ
shown_points true run slots points text = told_points run slots points text
shown_points false run slots points text = []

-- the course of these records under tables that came into force at these points
pub record IsUnder (tables : ℕ → BindingTable) (points : List ℕ) (errors : Option ℕ) (form : Form) (rs : List Rec) (c : Course) : Type 0 where
  pub tables_are : c.tables ≡ tables
  pub in_force_are : c.version ≡ in_force points
  pub loaded : c.loaded ≡ length points
  pub limited : IsLimited errors form rs (entries_of form rs) c

-- By what a run was ended, a call of the outside that failed or want of memory, and what is known of the outside before it and then.
pub record Stop : Type 0 where
  pub failed : Bool
  pub before : World
  pub after : World

abbrev pub is_failure : Fault → Bool
is_failure fault.Failed = true
is_failure fault.OutOfMemory = false

abbrev pub stop_by : Fault → World → World → Stop
stop_by why before after = record { failed = is_failure why; before = before; after = after }

-- where a call failed it is one of the files, and the sink took nothing
abbrev pub NothingPut : Stop → Type 0
NothingPut stop = Rises stop.failed stop.before.writing.spoiled stop.after.writing.spoiled × (stop.after.said ≡ stop.before.said)

-- The outputs are whole, and the sink took a front of the summary.
pub record IsAtSummary (run : RunJob) (slots : List Slot) (c : Course) (points : List ℕ) (form : Form) (written : Written) (rs : List Rec) (new : Contents)
    (said now : Option (List ℕ)) : Type 0 where
  pub output : content new run.output ≡ output_of c written form rs
  pub verdicts : content new run.verdicts ≡ verdicts_of c form rs
  pub versions : content new run.versions ≡ versions_of run.table (named run.loads slots) points
  pub count : ℕ
  pub took : now ≡ option_map (λ taken. taken ++ take count (summary_text (totals_of c form rs))) said

-- So many outputs were made, in the order of OUT, VERDICTS and VERSIONS. There are points for all tables whose windows open by the
-- last of the records. VERSIONS holds a front of what is due for these points; OUT and VERDICTS hold fronts of what is due for all
-- records under those tables alone whose lines VERSIONS holds whole. The sink took nothing, and where a call failed it is a create or
-- an append; or no such call failed, all outputs are whole, and the sink took a front of the summary.
pub record IsFront (run : RunJob) (tables : ℕ → BindingTable) (windows : List Window) (slots : List Slot) (form : Form) (written : Written) (rs : List Rec)
    (made : ℕ) (old new : Contents) (stop : Stop) : Type 0 where
  pub points : List ℕ
  pub placed : AreAllPoints windows points (length rs)
  pub course : Course
  pub under_all : IsUnder tables points run.errors form rs course
  pub shown : Course
  pub under_told : IsUnder tables (shown_points (nat_lt 2 made) run slots points (content new run.versions)) run.errors form rs shown
  pub output : HoldsFront (nat_lt 0 made) (output_of shown written form rs) (content old run.output) (content new run.output)
  pub verdicts : HoldsFront (nat_lt 1 made) (verdicts_of shown form rs) (content old run.verdicts) (content new run.verdicts)
  pub versions : HoldsFront (nat_lt 2 made) (versions_of run.table (named run.loads slots) points) (content old run.versions) (content new run.versions)
  pub others : OthersKept run old new
  pub sink : NothingPut stop ⊎ ((stop.after.writing.spoiled ≡ stop.before.writing.spoiled)
      × IsAtSummary run slots course points form written rs new stop.before.said stop.after.said)

-- These are all whole records of the capture where no read failed, and those before it where one did: then all outputs were made.
abbrev pub AreTaken : RunJob → Contents → Header → List Rec → ℕ → Stop → Type 0
AreTaken run inputs header rs made stop =
    ((stop.after.reading.lost ≡ stop.before.reading.lost) × ((ending : Option CaptureBad) × IsInput (content inputs run.input) header rs ending))
    ⊎ ((2 < made) × (Rose stop.before.reading.lost stop.after.reading.lost
    × AreBefore (IsInput (content inputs run.input) header) run.input header.ends_at rs stop.after.reading.last))

-- the run began under a header that is accepted, and was ended by a fault
pub record IsBroken (run : RunJob) (tables : ℕ → BindingTable) (windows : List Window) (slots : List Slot) (inputs old new : Contents) (stop : Stop) : Type 0 where
  pub header : Header
  pub sound : header_of (content inputs run.input) ≡ Ok header
  pub records : List Rec
  pub made : ℕ
  pub taken : AreTaken run inputs header records made stop
  pub front : IsFront run tables windows slots header.form header.written records made old new stop

-- it began under tables that are accepted
pub record IsBrokenRun (run : RunJob) (inputs old new : Contents) (stop : Stop) (history : Option HistoryValue) : Type 0 where
  pub first : BindingTable
  pub answers : List Answer
  pub tables : AreTables run inputs first answers
  pub broken : IsBroken run (table_by first answers) (windows_in run.loads answers) (slots_in 0 answers) inputs old new stop
  pub none : history ≡ None
