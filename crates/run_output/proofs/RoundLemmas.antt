-- A round, from what its calls did.
use Rattle.std.proofs.Common.{◌≡◌, ℕ, ◌+◌, ◌*◌, ◌≤◌, Bool, false, List, ◌++◌, All, length, Option, ◌∙◌, subst, arith}
use Rattle.aftr_text.specs.declared.summaries.Totals.{Totals}
use Rattle.capture_io.specs.declared.forms.Form.{Form}
use Rattle.capture_io.specs.declared.forms.Rec.{Rec}
use Rattle.capture_io.specs.declared.written.Written.{Written}
use Rattle.error_limit.specs.Limits.{Bucket}
use Rattle.item_stage.specs.declared.entries.Entry.{Entry}
use Rattle.run_output.specs.Cells.{AreCounted, ArePartsUnless, AreReady, Cell, HasMarked, IsFitting, cells, cells_in}
use Rattle.run_output.specs.Counting.{IsWithin}
use Rattle.run_output.specs.Limiting.{HasAsked, IsLimited, rate_of}
use Rattle.run_output.specs.Outputs.{Course}
use Rattle.run_output.specs.Rendering.{IsCourseOf, IsRendered}
use Rattle.run_output.specs.declared.rounds.Round.{Round}
use Rattle.worker_gate.specs.declared.outcomes.Outcome.{Outcome}
use Rattle.run_output.specs.declared.parts.Part.{Part}
use Rattle.run_output.proofs.CellLemmas.{cells_length}
use Rattle.run_output.proofs.CountLemmas.{counted_last}
use Rattle.run_output.proofs.CourseLemmas.{Matches, counts_are, lines_are, packets_are}
use Rattle.run_output.proofs.LimitLemmas.{OneMarking, asked_more, marks_match}
use Rattle.run_output.proofs.PartLemmas.{lines_joined, packets_joined}

-- the records of a round with their outcomes, and what its calls left: the limit, the marks, the parts and the counts
pub record RenderedRound : Type 0 where
  pub form : Form
  pub written : Written
  pub start : ℕ
  pub records : List Rec
  pub entries : List Entry
  pub outcomes : List Outcome
  pub limit : Option Bucket
  pub asked : Option Bucket
  pub limited : List Bool
  pub parts : List Part
  pub before : Totals
  pub after : Totals

abbrev pub cells_of : RenderedRound → List Cell
cells_of r = cells r.start r.records r.entries r.outcomes r.limited

-- what the contracts of those calls say of them
pub record IsDone (r : RenderedRound) : Type 0 where
  pub ready : AreReady r.start r.records r.entries r.outcomes r.limited
  pub marked : HasMarked r.form r.records r.outcomes (length r.outcomes) r.limit r.asked r.limited
  pub rate : rate_of r.asked ≡ rate_of r.limit
  pub size : ℕ
  pub are : ArePartsUnless r.written size (cells_of r) r.parts
  pub whole : All (λ (p : Part). p.failed ≡ false) r.parts
  pub covers : length r.records ≤ length r.parts * size
  pub counted_so : AreCounted size (cells_of r) r.start (length r.parts) r.before r.after

pub all_cells : (start : ℕ) (records : List Rec) (entries : List Entry) (os : List Outcome) (limited : List Bool) → AreReady start records entries os limited →
    length (cells start records entries os limited) ≡ length records
all_cells start records entries os limited ready =
    cells_length start records entries os limited ready.same (omega (arith, ready.fitting.count, ready.same)) ready.marked

pub round_cells : (r : Round) → IsFitting r → length (cells_in r) ≡ length r.records.now
round_cells r fitting = all_cells r.start r.records.now r.items.now r.outcomes.now r.limited.now (record { same = r.same; marked = r.marked; few = r.few; fitting = fitting })

many_cells : (r : RenderedRound) → IsDone r → length (cells_of r) ≡ length r.records
many_cells r done = all_cells r.start r.records r.entries r.outcomes r.limited done.ready

pub round_within : (r : RenderedRound) → IsDone r → IsWithin r.after (r.start + length r.records)
round_within r done =
    let size = many_cells r done in
    subst (λ (n : ℕ). IsWithin r.after (r.start + n)) size
    (counted_last done.size (cells_of r) r.start (length r.parts) r.before r.after (omega (arith, size, done.covers)) done.counted_so).1

pub round_asked : (r : RenderedRound) → IsDone r → (c : Course) (taken : List Rec) (earlier : List Entry) → length taken ≡ r.start →
    IsCourseOf c r.form taken r.records earlier r.entries r.outcomes r.limit → HasAsked r.form (taken ++ r.records) (earlier ++ r.entries) c r.asked
round_asked r done c taken earlier at course =
    asked_more c r.form taken r.records earlier r.entries r.outcomes r.limit r.asked r.limited done.ready.same done.ready.fitting.count course done.marked

pub round_rendered : OneMarking → (r : RenderedRound) → IsDone r → (c : Course) (taken : List Rec) (earlier : List Entry) → length taken ≡ r.start →
    IsCourseOf c r.form taken r.records earlier r.entries r.outcomes r.limit →
    IsLimited (rate_of r.limit) r.form (taken ++ r.records) (earlier ++ r.entries) c →
    IsRendered c r.written r.start r.records r.entries r.before r.after r.parts
round_rendered law r done c taken earlier at course is =
    let all : List Cell = cells_of r in
    let size = many_cells r done in
    let few : length all ≤ length r.parts * done.size = omega (arith, size, done.covers) in
    let match : Matches c r.start r.entries r.outcomes r.limited =
    subst (λ (n : ℕ). Matches c n r.entries r.outcomes r.limited) at
    (marks_match law c r.form taken r.records earlier r.entries r.outcomes r.limit r.asked r.limited done.ready.same done.ready.fitting.count course is
    done.rate done.marked) in
    record {
      packets = packets_joined r.written done.size all r.parts done.are done.whole few
          ∙ packets_are c r.written r.start r.records r.entries r.outcomes r.limited done.ready.same match;
      lines = lines_joined r.written done.size all r.parts done.are done.whole few
          ∙ lines_are c r.start r.records r.entries r.outcomes r.limited done.ready.same match;
      totals = (counted_last done.size all r.start (length r.parts) r.before r.after few done.counted_so).0
          ∙ counts_are c r.before r.start r.records r.entries r.outcomes r.limited done.ready.same match;
    }
