-- How a run ends: with a log, and a line for the sink behind it.
use Rattle.std.specs.Prelude.{Bool, Err, List, Ok, Option, Result, false, true, ℕ, ◌≡◌, ◌⊎◌}
use Rattle.aftr_io.specs.Outside.{Rises, Rose, Written, has_failed}
use Rattle.aftr_io.specs.Pieces.{TookAll}
use Rattle.aftr_io.specs.declared.outside.Fault.{Fault}
use Rattle.output_journal.specs.Log.{Logged, Logs, OutputNames, Step}

-- what is known of a sink
pub record SinkState : Type 0 where
  -- the bytes that it took, if they are told
  pub out : Option (List ℕ)
  -- how many of its calls have failed
  pub faults : ℕ

abbrev pub sink_state : Option (List ℕ) → ℕ → SinkState
sink_state out faults = record { out = out; faults = faults }

-- the sink took the line, after an error only the first bytes of it or none; its count rose exactly if a call failed
pub record Puts (r : Result Unit Fault) (line : List ℕ) (said now : SinkState) : Type 0 where
  pub out : TookAll r said.out now.out line
  pub faults : Rises (has_failed r) said.faults now.faults

-- The log is written and the line is put. After an error a front of the log is written and nothing is put; or all of the log is written,
-- and a front of the line is put.
abbrev pub Ends : OutputNames → Result Unit Fault → List Step → List ℕ → Written → Written → SinkState → SinkState → Type 0
Ends names (Ok done) steps line old new said now = Logged names false steps old new × Puts (Ok done) line said now
Ends names (Err why) steps line old new said now =
    (Logs names (Err why) steps old new × (now ≡ said)) ⊎ (Logged names false steps old new × Puts (Err why) line said now)

-- the count of failed writes or that of failed puts rose, if a call failed; otherwise both are as before
abbrev pub OneRises : Bool → ℕ → ℕ → ℕ → ℕ → Type 0
OneRises true spoiled spoiled_now puts puts_now = Rose spoiled spoiled_now ⊎ Rose puts puts_now
OneRises false spoiled spoiled_now puts puts_now = (spoiled_now ≡ spoiled) × (puts_now ≡ puts)
