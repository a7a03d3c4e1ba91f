-- A round that is judged and written in one pass. The list of its outcomes stands in the clauses alone.
use Rattle.std.specs.Prelude.{◌≡◌, ℕ, ◌+◌, ◌^◌, ◌≤◌, Bool, List, [], ◌∷◌, ◌++◌, length, Option}
use Rattle.aftr_text.specs.declared.summaries.Totals.{Totals}
use Rattle.area_swap.specs.declared.board.View.{View}
use Rattle.capture_io.specs.declared.forms.Rec.{Rec}
use Rattle.capture_io.specs.declared.written.Written.{Written}
use Rattle.error_limit.specs.Limits.{Bucket}
use Rattle.item_stage.specs.Items.{items_in}
use Rattle.item_stage.specs.declared.entries.Entry.{Entry}
use Rattle.run_output.specs.Cells.{HasMarked, IsPart, cells}
use Rattle.run_output.specs.Counting.{IsWithin, no_totals}
use Rattle.run_output.specs.Limiting.{HasAsked, IsLimited, rate_of}
use Rattle.run_output.specs.Outputs.{Course}
use Rattle.run_output.specs.Rendering.{IsCourseOf, IsRendered}
use Rattle.run_output.specs.declared.parts.Part.{Part}
use Rattle.run_output.specs.declared.rounds.DrawnRound.{DrawnRound}
use Rattle.swap_core.specs.States.{consecutive}
use Rattle.worker_gate.specs.declared.outcomes.Outcome.{Outcome}
use Rattle.worker_gate.specs.Holders.{HeldValue}
use Rattle.worker_gate.specs.Judging.{HasJudgedRun, HasRead}
use Rattle.worker_gate.specs.Turns.{DrawsNothing}
use Rattle.worker_gate.specs.WholeRounds.{AreOutcomes, HasJudgedWhole}

-- What one pass leaves. Each record has an outcome, judged under the version that the judge holds. The part has what these records write, and
-- their totals, under each course that has these outcomes and keeps back the errors that the limit does not let through. The limit was then
-- asked about the errors of these records too.
pub record HasPassed (r : DrawnRound) (v u : HeldValue) (limit asked : Option Bucket) (p : Part) : Type 0 where
  pub all : List Outcome
  pub many : length all ≡ length r.records.now
  pub judged : HasJudgedRun (items_in r.items.now) r.start v u all
  pub rendered : (c : Course) (taken : List Rec) (earlier : List Entry) → length taken ≡ r.start
      → IsCourseOf c r.form taken r.records.now earlier r.items.now all limit
      → IsLimited (rate_of limit) r.form (taken ++ r.records.now) (earlier ++ r.items.now) c
      → IsRendered c r.written r.start r.records.now r.items.now no_totals p.counted (p ∷ [])
  pub has_asked : (c : Course) (taken : List Rec) (earlier : List Entry) → length taken ≡ r.start
      → IsCourseOf c r.form taken r.records.now earlier r.items.now all limit
      → HasAsked r.form (taken ++ r.records.now) (earlier ++ r.items.now) c asked

-- The counts of a part are added to the totals of the records in front of it. `number` and `more` are how many records these are.
pub record HasCounted (p : Part) (before now : Totals) : Type 0 where
  pub within : (number more : ℕ) → IsWithin before number → IsWithin p.counted more → number + more ≤ 2 ^ 31 → IsWithin now (number + more)
  pub rendered : (number more : ℕ) → IsWithin before number → IsWithin p.counted more → number + more ≤ 2 ^ 31
      → (c : Course) (w : Written) (records : List Rec) (entries : List Entry)
      → IsRendered c w number records entries no_totals p.counted (p ∷ []) → IsRendered c w number records entries before now (p ∷ [])

-- what a pass leaves of its outcomes is what every form of a round leaves
abbrev pub PassesGiveOutcomes : Type 0
PassesGiveOutcomes =
    (r : DrawnRound) (v u : HeldValue) (limit asked : Option Bucket) (p : Part) (h : HasPassed r v u limit asked p)
    → AreOutcomes v.areas.plan (items_in r.items.now) r.start (r.start + length r.records.now)
    (consecutive r.start (length r.records.now) v.version) h.all

-- A judge was made of a held seat, passed over the seat's round and ended: the seat has judged the round whole. `v` and `u` are the judge
-- before and after the pass, and `free` is the seat at the end.
abbrev pub PassesAreWhole : Type 0
PassesAreWhole =
    (r : DrawnRound) (held v u : HeldValue) (free : View) (limit asked : Option Bucket) (p : Part) (h : HasPassed r v u limit asked p)
    → HasRead held v → DrawsNothing u.known free
    → HasJudgedWhole held.areas.plan (items_in r.items.now) r.start held.version held.known free h.all

-- The first i records are judged and written. Whatever outcomes come behind theirs, the limit was asked about theirs. No public contract
-- cites this.
pub record HasBegunPass (r : DrawnRound) (i : ℕ) (v u : HeldValue) (limit asked : Option Bucket) (p : Part) : Type 0 where
  pub outcomes : List Outcome
  pub limited : List Bool
  pub many : length outcomes ≡ i
  pub each_marked : length limited ≡ i
  pub judged : HasJudgedRun (items_in r.items.now) r.start v u outcomes
  pub part : IsPart r.written (cells r.start r.records.now r.items.now outcomes limited) p
  pub marked : (later : List Outcome) → HasMarked r.form r.records.now (outcomes ++ later) i limit asked limited
  pub rate : rate_of asked ≡ rate_of limit
