-- How far a run has come, and what its outputs hold by then.
use Rattle.std.specs.Prelude.{All, List, None, Option, Some, [], drop, length, take, ℕ, ◌++◌, ◌+◌, ◌<◌, ◌^◌, ◌∷◌, ◌≡◌, ◌≤◌, ◌⊎◌}
use Rattle.run_turns.specs.Words.{CaptureBad, Contents, Course, Ending, HasAsked, IsCompiled, IsLimited, IsWithin, NoneIsDue, Precedes, Progress, Rec}
use Rattle.run_turns.specs.Words.{RunJob, Stands, Tables, content, entries_of, items_in, lines_from, load_lines, no_totals, packets_from}
use Rattle.run_turns.specs.Words.{rate_of, table, totals_from, window}
use Rattle.capture_io.specs.declared.rounds.Ending.TheVariants as ending
use Rattle.run_turns.specs.Setups.{OthersKept, Setup, Spot, all_asking, loads_of}

-- How far a run has come, and what the workers have done: the plan of the tables, the records that were drawn, the points so far, and
-- how many words of the areas were read.
pub record State : Type 0 where
  pub progress : Progress
  pub plan : Tables
  pub draws : List (ℕ × ℕ)
  pub points : List ℕ
  pub reads : ℕ

-- How far tables are told of behind so many draws: none was made, or no table is left, or its window is not open yet.
abbrev pub IsUpToDate : Tables → ℕ → List ℕ → Type 0
IsUpToDate plan drawn points = (drawn ≡ 0) ⊎ ((length plan.tables ≤ length points + 1) ⊎ (drawn < (window plan (length points + 1)).earliest))

-- the tables of the course are those of the plan, and its versions those of the draws
pub record Suits (plan : Tables) (draws : List (ℕ × ℕ)) (c : Course) : Type 0 where
  pub tables : (version : ℕ) → version < length plan.tables → IsCompiled (c.tables version) (table plan version)
  pub versions : All (λ (d : ℕ × ℕ). c.version d.0 ≡ d.1) draws

-- the numbers are in their ranges, and stage and limit are those of the run
pub record IsInRange (x : Setup) (p : Progress) : Type 0 where
  pub number : p.number ≤ 2 ^ 31
  pub staged : p.stage.number ≡ p.number
  pub totals : IsWithin p.totals p.number
  pub rate : rate_of p.limit ≡ x.run.errors
  pub printed : p.printed ≤ length x.slots

-- lines of tables, packets and lines of records are put behind what the outputs held
pub record Wrote (run : RunJob) (versions packets lines : List ℕ) (old new : Contents) : Type 0 where
  pub versions_is : content new run.versions ≡ content old run.versions ++ versions
  pub output : content new run.output ≡ content old run.output ++ packets
  pub verdicts : content new run.verdicts ≡ content old run.verdicts ++ lines
  pub others : OthersKept run old new

abbrev pub IsLimitedRun : Setup → Course → List Rec → Type 0
IsLimitedRun x c taken = IsLimited x.run.errors x.form taken (entries_of x.form taken) c

-- Since the outputs were opened, these records were taken; the lines of the tables in force for them, and the records' packets and
-- lines, stand behind what was there. Points that come later change nothing of that.
pub record HasWritten (x : Setup) (c : Course) (opened now : Contents) (s : State) (taken : List Rec) : Type 0 where
  pub stands : Stands s.progress.stage taken
  pub stage_form : s.progress.stage.form ≡ x.form
  pub number : s.progress.number ≡ length taken
  pub entries : length (entries_of x.form taken) ≡ length taken
  pub asked : HasAsked x.form taken (entries_of x.form taken) c s.progress.limit
  pub totals : IsLimitedRun x c taken → s.progress.totals ≡ totals_from c no_totals 0 (entries_of x.form taken)
  pub files : (later : List ℕ) → IsLimitedRun x c taken →
      Wrote x.run (load_lines (s.points ++ later) (take s.progress.printed (loads_of x))) (packets_from c x.written 0 taken (entries_of x.form taken))
      (lines_from c 0 (entries_of x.form taken)) opened now
  -- the points of the tables that were in force for these records, and those that came since
  pub told : List ℕ
  pub since : List ℕ
  pub points : s.points ≡ told ++ since
  pub none_due : NoneIsDue told (drop s.progress.printed x.slots)
  pub spoken : (number : ℕ) → number < length taken → c.version number ≤ length told
  pub reads : all_asking (items_in (entries_of x.form taken)) ≤ s.reads

-- under every course that suits the plan and the draws so far
abbrev pub AreWritten : Setup → Contents → Contents → State → List Rec → Type 0
AreWritten x opened now s taken = (c : Course) → Suits s.plan s.draws c → HasWritten x c opened now s taken

-- a read of the record that is next failed, at a place from its beginning on and before its end
pub record IsCutAt (name : List ℕ) (reader : Spot) (bytes : List ℕ) (number : ℕ) (last : Option (List ℕ × ℕ)) : Type 0 where
  pub place : ℕ
  pub last_is : last ≡ Some (name, place)
  pub begun : reader.at ≤ place
  pub before : (r : Rec) (rs : List Rec) (e : Option CaptureBad) → reader.left bytes number (r ∷ rs) e → place < r.next_at

-- how the records stopped, if they did
abbrev pub Stops : List ℕ → Spot → List ℕ → ℕ → Option Ending → Option (List ℕ × ℕ) → Type 0
Stops name reader bytes number (Some ending.End) last = reader.left bytes number [] None
Stops name reader bytes number (Some (ending.Bad refusal)) last = reader.left bytes number [] (Some refusal)
Stops name reader bytes number (Some ending.ReadFault) last = IsCutAt name reader bytes number last
Stops name reader bytes number None last = Unit {0}

-- the reader took these records from the first one on
pub record HasTaken (name : List ℕ) (first now : Spot) (bytes : List ℕ) (rs : List Rec) (number : ℕ) (stop : Option Ending)
    (last : Option (List ℕ × ℕ)) : Type 0 where
  pub stands : now.stood bytes
  pub count : number ≡ length rs
  pub follows : Precedes first.left now.left bytes 0 rs number
  pub forward : first.at ≤ now.at
  pub within : All (λ r. r.next_at ≤ now.at) rs
  pub stopped : Stops name now bytes number stop last

-- rounds took these records of the capture with these bytes, and wrote what they write
pub record TakesOn (x : Setup) (s : State) (first reader : Spot) (stop : Option Ending) (last : Option (List ℕ × ℕ)) (bytes : List ℕ)
    (opened now : Contents) : Type 0 where
  pub records : List Rec
  pub taken : HasTaken x.run.input first reader bytes records s.progress.number stop last
  pub written : AreWritten x opened now s records

abbrev pub Goes : Setup → State → Spot → Spot → Option Ending → Option (List ℕ × ℕ) → List ℕ → Contents → Contents → Type 0
Goes x s first reader stop last bytes opened now = first.stood bytes → TakesOn x s first reader stop last bytes opened now
