-- What the run of the demonstration is told.
use Rattle.std.specs.Prelude.{All, None, Ok, false, length, ℕ, [], ◌∷◌, ◌≡◌}
use Rattle.lwaftr_engine.specs.Words.{AreCompiled, BindingTable, Made, RunJob, Show, capture_of, content, table_from}
use Rattle.lwaftr_engine.specs.Demos.{middle_window}
use Rattle.lwaftr_engine.specs.Planned.{IsRunJob, some_slot_refused}
use Rattle.lwaftr_engine.specs.Runs.{IsPlanOf}
use Rattle.lwaftr_engine.specs.Tables.{table_by}

pub record IsDemoJob (count : ℕ) (run : RunJob) : Type 0 where
  pub job : IsRunJob run
  pub one_load : length run.loads ≡ 1
  pub no_limit : run.errors ≡ None

abbrev pub two_tables : BindingTable → BindingTable → ℕ → BindingTable
two_tables first second version = table_by first (Ok second ∷ []) version

pub record IsDemoMade (count : ℕ) (first second : BindingTable) (made : Made) : Type 0 where
  pub plan : IsPlanOf (two_tables first second) (middle_window count) made.plan
  pub compiled : All AreCompiled made.plan.tables
  pub one_slot : length made.slots ≡ 1
  pub accepted : some_slot_refused made.slots ≡ false

pub record IsShow (seed count : ℕ) (s : Show) : Type 0 where
  pub job : IsDemoJob count s.job
  pub holds : content s.files.reading s.job.input ≡ capture_of seed count
  pub made : IsDemoMade count (table_from 0) (table_from 64) s.made
