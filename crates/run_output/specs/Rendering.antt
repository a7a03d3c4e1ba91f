-- What a round of records writes, and the totals that it leaves.
use Rattle.std.specs.Prelude.{◌≡◌, ℕ, ◌+◌, List, length, flat_map, Option, Some, slice_get}
use Rattle.aftr_text.specs.declared.summaries.Totals.{Totals}
use Rattle.capture_io.specs.declared.forms.Form.{Form}
use Rattle.capture_io.specs.declared.forms.Rec.{Rec}
use Rattle.capture_io.specs.declared.written.Written.{Written}
use Rattle.error_limit.specs.Limits.{Bucket}
use Rattle.ip_codec.specs.declared.items.Item.{Item}
use Rattle.item_stage.specs.Items.{items_in}
use Rattle.item_stage.specs.declared.entries.Entry.{Entry}
use Rattle.run_output.specs.Counting.{totals_from}
use Rattle.run_output.specs.Limiting.{HasAsked}
use Rattle.run_output.specs.Outputs.{Course, lines_from, packets_from, verdict_at}
use Rattle.worker_gate.specs.declared.outcomes.Outcome.{Outcome}
use Rattle.run_output.specs.declared.parts.Part.{Part}
use Rattle.verdict_core.specs.Fitting.{Fits, HasRoom}

-- There is an outcome for each record, whose verdict fits the record's item and names sizes that every link takes.
pub record AreFitting (entries : List Entry) (outcomes : List Outcome) : Type 0 where
  pub count : length outcomes ≡ length entries
  pub fits : (k : ℕ) (o : Outcome) (i : Item) → slice_get outcomes k ≡ Some o → slice_get (items_in entries) k ≡ Some i → Fits i o.verdict
  pub room : (k : ℕ) (o : Outcome) → slice_get outcomes k ≡ Some o → HasRoom o.verdict

-- Each outcome has the number of its record, and the version and the verdict that the course has for it.
pub record HasOutcomes (c : Course) (start : ℕ) (entries : List Entry) (outcomes : List Outcome) : Type 0 where
  pub numbers : (k : ℕ) (o : Outcome) → slice_get outcomes k ≡ Some o → o.number ≡ start + k
  pub versions : (k : ℕ) (o : Outcome) → slice_get outcomes k ≡ Some o → o.version ≡ c.version o.number
  pub verdicts : (k : ℕ) (o : Outcome) (i : Item) → slice_get outcomes k ≡ Some o → slice_get (items_in entries) k ≡ Some i
      → o.verdict ≡ verdict_at c o.number i

-- what the parts of a round have, one behind the other
abbrev pub packets_in : List Part → List ℕ
packets_in parts = flat_map (λ p. p.packets.items) parts

abbrev pub lines_in : List Part → List ℕ
lines_in parts = flat_map (λ p. p.lines.items) parts

-- the records write just this
pub record IsRendered (c : Course) (w : Written) (start : ℕ) (records : List Rec) (entries : List Entry) (before now : Totals) (parts : List Part)
    : Type 0 where
  pub packets : packets_in parts ≡ packets_from c w start records entries
  pub lines : lines_in parts ≡ lines_from c start entries
  pub totals : now ≡ totals_from c before start entries

-- A course for the first records of a run: `taken` and their entries, and behind them those of a round, with these outcomes. The
-- limiter was asked about the errors of those that were taken.
pub record IsCourseOf (c : Course) (form : Form) (taken records : List Rec) (before entries : List Entry) (outcomes : List Outcome)
    (limit : Option Bucket) : Type 0 where
  pub counted : length before ≡ length taken
  pub outcomes_of : HasOutcomes c (length taken) entries outcomes
  pub asked : HasAsked form taken before c limit
