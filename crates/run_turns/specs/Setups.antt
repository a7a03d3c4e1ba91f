-- What a run is told before its first record, and where its reader stands.
use Rattle.std.specs.Prelude.{Bool, List, Some, count_by, ℕ, ◌≡◌, ◌≢◌}
use Rattle.run_turns.specs.Words.{Contents, Form, Item, Left, NamedSlot, OnlyReads, OutputNames, Readable, RunJob, Slot, Task, Written, asks, content}
use Rattle.run_turns.specs.Words.{named}

pub record Setup : Type 0 where
  pub run : RunJob
  pub slots : List Slot
  pub form : Form
  pub written : Written

abbrev pub setup_of : Task → Setup
setup_of task = record { run = task.job.now; slots = task.slots.now; form = task.form; written = task.written }

abbrev pub loads_of : Setup → List NamedSlot
loads_of x = named x.run.loads x.slots

abbrev pub outputs_of : RunJob → OutputNames
outputs_of run = record { packets = run.output; verdicts = run.verdicts; versions = run.versions }

-- a name other than the three outputs holds what it held
abbrev pub OthersKept : RunJob → Contents → Contents → Type 0
OthersKept run old new = (name : List ℕ) → name ≢ run.output → name ≢ run.verdicts → name ≢ run.versions → content new name ≡ content old name

-- how many items ask the table: all that are neither held nor dropped already
abbrev pub all_asking : List Item → ℕ
all_asking items = count_by (λ (i : Item). asks (Some i)) items

-- where a reader stands: in which bytes, what is left of them, and from which place on
pub record Spot : Type 1 where
  pub stood : List ℕ → Type 0
  pub left : Left
  pub at : ℕ

abbrev pub spot : (List ℕ → Type 0) → Left → ℕ → Spot
spot stood left at = record { stood = stood; left = left; at = at }

-- A call that reads this file alone.
abbrev pub ReadsOf : Bool → List ℕ → Readable → Readable → Type 0
ReadsOf failed name before now = OnlyReads failed name (λ place. Unit {0}) before now
