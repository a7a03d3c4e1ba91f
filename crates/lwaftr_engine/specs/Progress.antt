-- How far a run has come, and what its outputs hold by then.
use Rattle.std.specs.Prelude.{All, Bool, List, None, Option, Some, drop, false, length, take, true, ℕ, [], ◌++◌, ◌+◌, ◌<◌, ◌^◌, ◌∷◌, ◌≡◌, ◌≤◌, ◌⊎◌}
use Rattle.lwaftr_engine.specs.Words.{AreDrawn, CaptureBad, Contents, Course, Ending, Form, HasAsked, HasWholeShare, HistoryValue, IsCompiled}
use Rattle.lwaftr_engine.specs.Words.{IsHistory, IsIdle, IsLimited, IsOf, IsResting, IsWithin, Left, Moves, NamedSlot, NoneIsDue, OnlyReads, Precedes, Progress}
use Rattle.lwaftr_engine.specs.Words.{Readable, Rec, Rose, Router, RunJob, Shift, Slot, Stands, Tables, Task, Written, content, entries_of, items_in, lines_from}
use Rattle.lwaftr_engine.specs.Words.{load_lines, named, no_totals, packets_from, rate_of, table, totals_from, window}
use Rattle.capture_io.specs.declared.rounds.Ending.TheVariants as ending
use Rattle.lwaftr_engine.specs.Causes.{MayFailIn}
use Rattle.lwaftr_engine.specs.Runs.{OthersKept, all_asking}
use Rattle.lwaftr_engine.specs.Worlds.{Halves}

-- what a run is told before its first record
pub record Setup : Type 0 where
  pub run : RunJob
  pub slots : List Slot
  pub form : Form
  pub written : Written

abbrev pub setup_of : Task → Setup
setup_of task = record { run = task.job.now; slots = task.slots.now; form = task.form; written = task.written }

abbrev pub loads_of : Setup → List NamedSlot
loads_of x = named x.run.loads x.slots

-- where a reader stands: in which bytes, what is left of them, and from which place on
pub record Spot : Type 1 where
  pub stood : List ℕ → Type 0
  pub left : Left
  pub at : ℕ

abbrev pub spot : (List ℕ → Type 0) → Left → ℕ → Spot
spot stood left at = record { stood = stood; left = left; at = at }

-- How far a run has come, and what the workers have done: the plan of the tables, the records that were drawn, the points so far, and
-- how many words of the areas were read.
pub record State : Type 0 where
  pub progress : Progress
  pub plan : Tables
  pub draws : List (ℕ × ℕ)
  pub points : List ℕ
  pub reads : ℕ

abbrev pub state_by : Progress → Shift → State
state_by p s = record { progress = p; plan = s.areas.plan; draws = s.seat.known.actor.draws; points = s.desk.known.points; reads = s.seat.known.reads }

abbrev pub state_of : Router → State
state_of r = state_by r.progress r.shift

-- the workers' seat and the desk between two rounds
pub record IsOnDuty (plan : Tables) (s : Shift) : Type 0 where
  pub its_plan : s.areas.plan ≡ plan
  pub seat_areas : IsOf s.areas s.seat
  pub desk_areas : IsOf s.areas s.desk
  pub idle : IsIdle s.seat.known
  pub whole : HasWholeShare s.seat.known
  pub rests : IsResting s.desk.known
  pub room : s.crew.room ≡ 16384

-- the areas are closed
pub record IsClosed (s : State) (h : HistoryValue) : Type 0 where
  pub same_plan : h.plan ≡ s.plan
  pub points : h.points ≡ s.points
  pub reads : h.reads ≡ s.reads
  pub drawn : AreDrawn h s.draws
  pub history : IsHistory h

-- How far tables are told of behind so many draws: none was made, or no table is left, or its window is not open yet.
abbrev pub IsUpToDate : Tables → ℕ → List ℕ → Type 0
IsUpToDate plan drawn points = (drawn ≡ 0) ⊎ ((length plan.tables ≤ length points + 1) ⊎ (drawn < (window plan (length points + 1)).earliest))

-- what rounds add: draws and points behind those that there were
pub record AddsTo (before now : Shift) : Type 0 where
  pub drawn : List (ℕ × ℕ)
  pub draws : now.seat.known.actor.draws ≡ before.seat.known.actor.draws ++ drawn
  pub news : List ℕ
  pub points : now.desk.known.points ≡ before.desk.known.points ++ news

-- the tables of the course are those of the plan, and its versions those of the draws
pub record Suits (plan : Tables) (draws : List (ℕ × ℕ)) (c : Course) : Type 0 where
  pub tables : (version : ℕ) → version < length plan.tables → IsCompiled (c.tables version) (table plan version)
  pub versions : All (λ (d : ℕ × ℕ). c.version d.0 ≡ d.1) draws

-- the numbers are in their ranges, and stage and limit are those of the run
pub record IsInRange (x : Setup) (p : Progress) : Type 0 where
  pub number : p.number ≤ 2 ^ 31
  pub staged : p.stage.number ≡ p.number
  pub totals : IsWithin p.totals p.number
  pub rate : rate_of p.limit ≡ x.run.errors
  pub printed : p.printed ≤ length x.slots

-- lines of tables, packets and lines of records are put behind what the outputs held
pub record Wrote (run : RunJob) (versions packets lines : List ℕ) (old new : Contents) : Type 0 where
  pub versions_is : content new run.versions ≡ content old run.versions ++ versions
  pub output : content new run.output ≡ content old run.output ++ packets
  pub verdicts : content new run.verdicts ≡ content old run.verdicts ++ lines
  pub others : OthersKept run old new

abbrev pub IsLimitedRun : Setup → Course → List Rec → Type 0
IsLimitedRun x c taken = IsLimited x.run.errors x.form taken (entries_of x.form taken) c

-- Since the outputs were opened, these records were taken; the lines of the tables in force, and the records' packets and lines,
-- stand behind what was there. Points that come later change nothing of that.
pub record HasWritten (x : Setup) (c : Course) (opened now : Contents) (s : State) (taken : List Rec) : Type 0 where
  pub stands : Stands s.progress.stage taken
  pub stage_form : s.progress.stage.form ≡ x.form
  pub number : s.progress.number ≡ length taken
  pub entries : length (entries_of x.form taken) ≡ length taken
  pub asked : HasAsked x.form taken (entries_of x.form taken) c s.progress.limit
  pub totals : IsLimitedRun x c taken → s.progress.totals ≡ totals_from c no_totals 0 (entries_of x.form taken)
  pub files : (later : List ℕ) → IsLimitedRun x c taken →
      Wrote x.run (load_lines (s.points ++ later) (take s.progress.printed (loads_of x))) (packets_from c x.written 0 taken (entries_of x.form taken))
      (lines_from c 0 (entries_of x.form taken)) opened now
  pub none_due : NoneIsDue s.points (drop s.progress.printed x.slots)
  pub spoken : (number : ℕ) → number < length taken → c.version number ≤ length s.points
  pub reads : all_asking (items_in (entries_of x.form taken)) ≤ s.reads

-- under every course that suits the plan and the draws so far
abbrev pub AreWritten : Setup → Contents → Contents → State → List Rec → Type 0
AreWritten x opened now s taken = (c : Course) → Suits s.plan s.draws c → HasWritten x c opened now s taken

-- a read of the record that is next failed, at a place from its beginning on and before its end
pub record IsCutAt (name : List ℕ) (reader : Spot) (bytes : List ℕ) (number : ℕ) (last : Option (List ℕ × ℕ)) : Type 0 where
  pub place : ℕ
  pub last_is : last ≡ Some (name, place)
  pub begun : reader.at ≤ place
  pub before : (r : Rec) (rs : List Rec) (e : Option CaptureBad) → reader.left bytes number (r ∷ rs) e → place < r.next_at

-- how the records stopped, if they did
abbrev pub Stops : List ℕ → Spot → List ℕ → ℕ → Option Ending → Option (List ℕ × ℕ) → Type 0
Stops name reader bytes number (Some ending.End) last = reader.left bytes number [] None
Stops name reader bytes number (Some (ending.Bad refusal)) last = reader.left bytes number [] (Some refusal)
Stops name reader bytes number (Some ending.ReadFault) last = IsCutAt name reader bytes number last
Stops name reader bytes number None last = Unit {0}

-- the reader took these records from the first one on
pub record HasTaken (name : List ℕ) (first now : Spot) (bytes : List ℕ) (rs : List Rec) (number : ℕ) (stop : Option Ending)
    (last : Option (List ℕ × ℕ)) : Type 0 where
  pub stands : now.stood bytes
  pub count : number ≡ length rs
  pub follows : Precedes first.left now.left bytes 0 rs number
  pub forward : first.at ≤ now.at
  pub within : All (λ r. r.next_at ≤ now.at) rs
  pub stopped : Stops name now bytes number stop last

-- rounds took these records of the capture with these bytes, and wrote what they write
pub record TakesOn (x : Setup) (s : State) (first reader : Spot) (stop : Option Ending) (last : Option (List ℕ × ℕ)) (bytes : List ℕ)
    (opened now : Contents) : Type 0 where
  pub records : List Rec
  pub taken : HasTaken x.run.input first reader bytes records s.progress.number stop last
  pub written : AreWritten x opened now s records

abbrev pub Goes : Setup → State → Spot → Spot → Option Ending → Option (List ℕ × ℕ) → List ℕ → Contents → Contents → Type 0
Goes x s first reader stop last bytes opened now = first.stood bytes → TakesOn x s first reader stop last bytes opened now

-- A call that reads this file alone.
abbrev pub ReadsOf : Bool → List ℕ → Readable → Readable → Type 0
ReadsOf failed name before now = OnlyReads failed name (λ place. Unit {0}) before now

-- Whatever came of a run's steps: what is read holds what it held, and of what is written other names do; no read failed, or one of the
-- capture.
pub record KeepsRest (run : RunJob) (before now : Halves) : Type 0 where
  pub inputs : now.reading.held ≡ before.reading.held
  pub others : Moves before.writing.held now.writing.held (OthersKept run)
  pub capture_read : MayFailIn run.input before.reading now.reading
