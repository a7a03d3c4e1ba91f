-- The files of a run: those of one router that took the records in order, each under the table in force at its number.
use Rattle.std.specs.Prelude.{List, Option, Some, count_by, length, slice_get, ℕ, ◌++◌, ◌+◌, ◌<◌, ◌≡◌, ◌≢◌, ◌≤◌}
use Rattle.std.specs.Option.{option_map}
use Rattle.lwaftr_engine.specs.Words.{AreAllPoints, BindingTable, Contents, Course, Form, HasAccess, HistoryValue, IsCompiled, IsLimited, Item, Rec, RunJob}
use Rattle.lwaftr_engine.specs.Words.{Sends, Slot, Tables, Verdict, Window, Written, asks, content, entries_of, in_force, items_in, named, output_of, sent}
use Rattle.lwaftr_engine.specs.Words.{summary_text, table, totals_of, verdict_at, verdicts_of, versions_of}

-- a name other than the three outputs holds what it held
abbrev pub OthersKept : RunJob → Contents → Contents → Type 0
OthersKept run old new = (name : List ℕ) → name ≢ run.output → name ≢ run.verdicts → name ≢ run.versions → content new name ≡ content old name

-- The outputs are those of a router that took these records, and the sink took the summary.
pub record IsWritten (run : RunJob) (slots : List Slot) (c : Course) (points : List ℕ) (form : Form) (written : Written) (rs : List Rec) (old new : Contents)
    (said now : Option (List ℕ)) : Type 0 where
  pub output : content new run.output ≡ output_of c written form rs
  pub verdicts : content new run.verdicts ≡ verdicts_of c form rs
  pub versions : content new run.versions ≡ versions_of run.table (named run.loads slots) points
  pub others : OthersKept run old new
  pub summary : now ≡ option_map (λ taken. taken ++ summary_text (totals_of c form rs)) said

-- as many packets are sent for a verdict as it calls for, whatever the number of its record
abbrev pub SendsItsPackets : Item → Verdict → Type 0
SendsItsPackets i v = (number : ℕ) → Sends v (length (sent i v number))

-- Table k of the windows comes into force at point k, which is inside its window: there is one for each window whose earliest number is
-- at most the number of records, and no other. Of these tables and points, and of the limit on errors, is the course of the run.
pub record IsCourse (tables : ℕ → BindingTable) (windows : List Window) (errors : Option ℕ) (points : List ℕ) (form : Form) (rs : List Rec)
    (c : Course) : Type 0 where
  pub tables_are : c.tables ≡ tables
  pub in_force_are : c.version ≡ in_force points
  pub loaded : c.loaded ≡ length points
  pub placed : AreAllPoints windows points (length rs)
  pub limited : IsLimited errors form rs (entries_of form rs) c
  -- Who may send, who receives, and whom errors reach, under the table in force at the record. What goes on is sent in at least one
  -- packet, an error in one, and nothing else sends any.
  pub access : (number : ℕ) (i : Item) → slice_get (items_in (entries_of form rs)) number ≡ Some i
      → HasAccess (c.tables (c.version number)) i (verdict_at c number i)
  pub sends : (number : ℕ) (i : Item) → slice_get (items_in (entries_of form rs)) number ≡ Some i
      → SendsItsPackets i (verdict_at c number i)

-- how many items ask the table: all that are neither held nor dropped already
abbrev pub all_asking : List Item → ℕ
all_asking items = count_by (λ (i : Item). asks (Some i)) items

-- the words of these tables, with these windows
pub record IsPlanOf (tables : ℕ → BindingTable) (windows : List Window) (p : Tables) : Type 0 where
  pub same_windows : p.windows ≡ windows
  pub count : length p.tables ≡ length windows + 1
  pub compiled : (version : ℕ) → version < length p.tables → IsCompiled (tables version) (table p version)

-- What was done in the areas in which the tables were swapped: their plan, the points, and the records that were drawn. A word was
-- read for each record whose item asks the table.
pub record IsHistoryOf (tables : ℕ → BindingTable) (windows : List Window) (points : List ℕ) (form : Form) (rs : List Rec)
    (history : Option HistoryValue) : Type 0 where
  pub value : HistoryValue
  pub is : history ≡ Some value
  pub plan : IsPlanOf tables windows value.plan
  pub same_points : value.points ≡ points
  pub records : value.records ≡ length rs
  pub reads : all_asking (items_in (entries_of form rs)) ≤ value.reads

-- a run of these records under these tables
pub record IsRun (run : RunJob) (tables : ℕ → BindingTable) (windows : List Window) (slots : List Slot) (form : Form) (written : Written) (rs : List Rec)
    (old new : Contents) (said now : Option (List ℕ)) (history : Option HistoryValue) : Type 0 where
  pub points : List ℕ
  pub course : Course
  pub is_course : IsCourse tables windows run.errors points form rs course
  pub outputs : IsWritten run slots course points form written rs old new said now
  pub is_history : IsHistoryOf tables windows points form rs history
