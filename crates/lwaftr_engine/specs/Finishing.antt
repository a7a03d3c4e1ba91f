-- What is written when the records have ended.
use Rattle.std.specs.Prelude.{Bool, Err, List, None, Ok, Option, Result, drop, false, flat_map, length, take, ℕ, [], ◌++◌, ◌≡◌, ◌⊎◌}
use Rattle.std.specs.Option.{option_map}
use Rattle.lwaftr_engine.specs.Words.{Contents, Ending, Fault, HistoryValue, Progress, Rec, Rises, Stands, ended_text, load_lines, summary_text}
use Rattle.lwaftr_engine.specs.Words.{Step, last_log, unfinished_of, with_version}
use Rattle.lwaftr_engine.specs.Promises.{HasSummary}
use Rattle.lwaftr_engine.specs.Progress.{Setup, loads_of}
use Rattle.lwaftr_engine.specs.Writing.{Did, DidFront}

-- the last lines of tables, of the points of the whole run, and those of the datagrams that were never whole
abbrev pub last_versions : Setup → Progress → List ℕ → List ℕ
last_versions x p points = load_lines points (drop p.printed (loads_of x))

abbrev pub last_lines : Progress → List Rec → List ℕ
last_lines p taken = flat_map (ended_text false) (unfinished_of p.stage.form taken)

abbrev pub last_line : Progress → List ℕ → List ℕ
last_line p points = summary_text (with_version p.totals (length points))

abbrev pub last_round : Setup → Progress → List ℕ → List ℕ → List Step
last_round x p points lines = last_log (last_versions x p points) lines

abbrev pub last_steps : Setup → Progress → List ℕ → List Rec → List Step
last_steps x p points taken = last_round x p points (last_lines p taken)

-- all lines are written, and the summary is put
pub record IsFinished (x : Setup) (p : Progress) (points : List ℕ) (taken : List Rec) (old new : Contents) (said now : Option (List ℕ)) : Type 0 where
  pub did : Did x.run (last_steps x p points taken) old new
  pub took : now ≡ option_map (λ out. out ++ last_line p points) said

-- the sink took a front of this line
abbrev pub TookFront : List ℕ → Option (List ℕ) → Option (List ℕ) → Type 0
TookFront line said now = (count : ℕ) × (now ≡ option_map (λ out. out ++ take count line) said)

-- where a call failed, it is an append while the lines are not whole, and a put behind them
abbrev pub IsHalfFinished : Setup → Progress → List ℕ → List Rec → Bool → ℕ → ℕ → Option (List ℕ) → Option (List ℕ) → Contents → Contents → Type 0
IsHalfFinished x p points taken failed spoiled spoiled_now said now old new =
    (Rises failed spoiled spoiled_now × (DidFront x.run (last_steps x p points taken) old new × (now ≡ said)))
    ⊎ ((spoiled_now ≡ spoiled) × (Did x.run (last_steps x p points taken) old new × TookFront (last_line p points) said now))

-- so it was done, whichever records the stage stands for: whole, or in part
abbrev pub Finishes : Setup → Progress → List ℕ → Option (List ℕ) → Option (List ℕ) → Contents → Contents → Type 0
Finishes x p points said now old new = (taken : List Rec) → Stands p.stage taken → IsFinished x p points taken old new said now

abbrev pub FinishesPart : Setup → Progress → List ℕ → Bool → ℕ → ℕ → Option (List ℕ) → Option (List ℕ) → Contents → Contents → Type 0
FinishesPart x p points failed spoiled spoiled_now said now old new =
    (taken : List Rec) → Stands p.stage taken → IsHalfFinished x p points taken failed spoiled spoiled_now said now old new

-- there is a history with its summary where all is written, and none after a fault
abbrev pub HasHistoryBy : Result Ending Fault → Option (List ℕ) → Option (List ℕ) → Option HistoryValue → Type 0
HasHistoryBy (Ok ending) said now history = HasSummary said now history
HasHistoryBy (Err why) said now history = history ≡ None
