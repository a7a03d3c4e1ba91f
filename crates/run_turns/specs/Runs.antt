-- What a run begins with, and what it leaves.
use Rattle.std.specs.Prelude.{All, Bool, Err, IfErr, IfOk, List, None, Ok, Option, Result, Some, [], false, is_some, length, ℕ, ◌<◌, ◌≡◌}
use Rattle.run_turns.specs.Words.{AreCompiled, AreasValue, CanReload, Course, DrawsAlone, Ending, EndsInRecords, Fault, Form, HasAsked, HasWholeShare}
use Rattle.run_turns.specs.Words.{IsIdle, IsOf, Moves, Progress, Readable, Rises, Stands, Tables, Task, Told, Work, WrittenFiles, content, has_failed, is_cut}
use Rattle.run_turns.specs.Words.{no_totals, rate_of}
use Rattle.run_turns.specs.Broken.{Breaks}
use Rattle.run_turns.specs.Fills.{Taking}
use Rattle.run_turns.specs.Passes.{Putting}
use Rattle.run_turns.specs.Progress.{Goes, IsInRange, State}
use Rattle.run_turns.specs.Setups.{OthersKept, ReadsOf, Setup, Spot}

-- how far a run has come, under this plan
abbrev pub state_of : Tables → Work → State
state_of plan w = record {
  progress = w.progress;
  plan = plan;
  draws = w.seat.known.actor.draws;
  points = w.desk.known.points;
  reads = w.seat.known.reads;
}

-- how far the source and the sink have come
abbrev pub progress_of : {C : Type 0} → Taking C → Putting → Progress
progress_of s w = record { stage = s.stage; number = s.number; totals = w.totals; limit = w.limit; printed = s.printed }

abbrev pub state_by : {C : Type 0} → AreasValue → Taking C → Putting → ℕ → State
state_by areas s w reads = record {
  progress = progress_of s w;
  plan = areas.plan;
  draws = s.dealer.seat.known.actor.draws;
  points = s.dealer.desk.known.points;
  reads = reads;
}

-- The seat has the whole share, and the desk is between two tables.
pub record IsOffDuty (areas : AreasValue) (w : Work) : Type 0 where
  pub seat_areas : IsOf areas w.seat
  pub idle : IsIdle w.seat.known
  pub whole : HasWholeShare w.seat.known
  pub desk : CanReload areas w.desk

-- how far a run has come before its first record
pub record IsFirst (form : Form) (errors : Option ℕ) (p : Progress) : Type 0 where
  pub stands : Stands p.stage []
  pub stage_form : p.stage.form ≡ form
  pub staged : p.stage.number ≡ 0
  pub number : p.number ≡ 0
  pub totals : p.totals ≡ no_totals
  pub rate : rate_of p.limit ≡ errors
  pub asked : (form : Form) (c : Course) → HasAsked form [] [] c p.limit
  pub printed : p.printed ≡ 0

-- a judge of this task, which leaves rounds to the sink if errors are limited
pub record IsBench (task its : Task) (limited : Bool) : Type 0 where
  pub same_task : its ≡ task
  pub limits : limited ≡ is_some task.job.now.errors

-- the buffers of a worker: some, and this holds of each
pub record IsNewLine {T : Type 0} (IsNew : T → Type 0) (line : List T) : Type 0 where
  pub some_one : 0 < length line
  pub each : All IsNew line

-- what a run begins with
pub record IsAtStart (x : Setup) (areas : AreasValue) (w : Work) : Type 0 where
  pub loads : length x.slots ≡ length x.run.loads
  pub compiled : All AreCompiled areas.plan.tables
  pub off_duty : IsOffDuty areas w
  pub alone : DrawsAlone w.seat.known
  pub no_draws : w.seat.known.actor.draws ≡ []
  pub no_points : w.desk.known.points ≡ []
  pub first : IsFirst x.form x.run.errors w.progress

-- the source and the sink before the first record
pub record AreFresh {C : Type 0} (x : Setup) (areas : AreasValue) (s : Taking C) (w : Putting) : Type 0 where
  pub its_areas : s.dealer.areas.now ≡ areas
  pub no_ahead : s.at.ahead ≡ []
  pub no_ending : s.at.ending ≡ None
  pub going : s.refused ≡ false
  pub no_draws : s.dealer.seat.known.actor.draws ≡ []
  pub no_points : s.dealer.desk.known.points ≡ []
  pub first : IsFirst x.form x.run.errors (progress_of s w)

-- the sink's fault, or else how the records ended
abbrev pub EndsBy : Option Fault → Option Ending → Result Ending Fault → Type 0
EndsBy (Some why) ending ended = ended ≡ Err why
EndsBy None (Some ending) ended = ended ≡ Ok ending
EndsBy None None ended = ⊥

-- All records were taken, and what they write is in the outputs.
pub record WentWell (x : Setup) (s : State) (first now : Spot) (a b : Readable) (o p : WrittenFiles) (ending : Ending) : Type 0 where
  pub goes : Told a.held (λ i. Moves o.held p.held (Goes x s first now (Some ending) b.last (content i x.run.input)))
  pub reads : ReadsOf (is_cut (Some ending)) x.run.input a b
  pub in_records : EndsInRecords (Some ending)
  pub bounded : IsInRange x s.progress
  pub drawn : length s.draws ≡ s.progress.number

-- What rounds leave. A fault is one of writing, or memory was refused. No read fails but one of the capture.
pub record Leaves (x : Setup) (s : State) (first now : Spot) (a b : Readable) (o p : WrittenFiles) (ended : Result Ending Fault) : Type 0 where
  pub went : IfOk ended (WentWell x s first now a b o p)
  pub broken : IfErr ended (λ why. Told a.held (λ i. Moves o.held p.held (Breaks x s first a b (content i x.run.input))))
  pub read : (failed : Bool) × ReadsOf failed x.run.input a b
  pub others : Moves o.held p.held (OthersKept x.run)
  pub spoiled : Rises (has_failed ended) o.spoiled p.spoiled
