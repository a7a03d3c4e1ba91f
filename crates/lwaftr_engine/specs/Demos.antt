-- The demonstration: a run over generated traffic, with one change of tables in its middle.
use Rattle.std.specs.Prelude.{List, None, Ok, Option, length, ℕ, [], ◌/◌, ◌∷◌, ◌≡◌, ◌⊎◌}
use Rattle.lwaftr_engine.specs.Words.{BindingTable, Course, HistoryValue, Rec, Status, Window, capture_of, summary_text, table_from, totals_of}
use Rattle.lwaftr_engine.specs.Causes.{HasOneCause}
use Rattle.lwaftr_engine.specs.Inputs.{Header, IsInput}
use Rattle.lwaftr_engine.specs.Questions.{Answers}
use Rattle.lwaftr_engine.specs.Runs.{IsCourse, IsHistoryOf}
use Rattle.lwaftr_engine.specs.Tables.{table_by}
use Rattle.lwaftr_engine.specs.Worlds.{World}
use Rattle.lwaftr_engine.specs.declared.status.Status.TheVariants as status

-- the second table comes into force before this record
abbrev pub middle : ℕ → ℕ
middle count = count / 2

abbrev pub half_way : ℕ → Window
half_way count = record { earliest = middle count; latest = middle count }

abbrev pub middle_window : ℕ → List Window
middle_window count = half_way count ∷ []

-- all subscribers at first, and then those of the second table
abbrev pub demo_tables : ℕ → BindingTable
demo_tables version = table_by (table_from 0) (Ok (table_from 64) ∷ []) version

-- the line is the summary of the run of the generated capture, which has so many records
pub record IsDemoLine (seed count : ℕ) (line : List ℕ) : Type 0 where
  pub header : Header
  pub records : List Rec
  pub capture : IsInput (capture_of seed count) header records None
  pub counted : length records ≡ count
  pub course : Course
  pub is_course : IsCourse demo_tables (middle_window count) None (middle count ∷ []) header.form records course
  pub line_is : line ≡ summary_text (totals_of course header.form records)

-- and the history is that of the run
pub record IsDemo (seed count : ℕ) (line : List ℕ) (history : Option HistoryValue) : Type 0 where
  pub shown : IsDemoLine seed count line
  pub is_history : IsHistoryOf demo_tables (middle_window count) (middle count ∷ []) shown.header.form shown.records history

-- at `Done` the history is that of the run, and else there is none
abbrev pub HasDemoHistory : ℕ → ℕ → Status → Option HistoryValue → Type 0
HasDemoHistory seed count status.Done history = (line : List ℕ) × IsDemo seed count line history
HasDemoHistory seed count _ history = history ≡ None

-- What the demonstration leaves: the files as they were, and the summary. It fails only where the sink or memory does.
pub record KeepsDemo (seed count : ℕ) (result : Status) (before now : World) (history : Option HistoryValue) : Type 0 where
  pub read_kept : now.reading ≡ before.reading
  pub kept : now.writing ≡ before.writing
  pub line : Answers (IsDemoLine seed count) result before.said now.said
  pub cause : HasOneCause result before now
  pub due : (result ≡ status.Done) ⊎ ((result ≡ status.WriteFault) ⊎ (result ≡ status.OutOfMemory))
  pub history_is : HasDemoHistory seed count result history
