-- What follows from the definitions for whoever runs rounds.
use Rattle.std.specs.Prelude.{◌≡◌, ℕ, ◌+◌, ◌≤◌, List, ◌++◌, length, take, Option}
use Rattle.aftr_text.specs.declared.summaries.Totals.{Totals}
use Rattle.capture_io.specs.declared.forms.Form.{Form}
use Rattle.capture_io.specs.declared.forms.Rec.{Rec}
use Rattle.capture_io.specs.declared.written.Written.{Written}
use Rattle.error_limit.specs.Limits.{Bucket}
use Rattle.item_stage.specs.Items.{entries_of}
use Rattle.item_stage.specs.declared.entries.Entry.{Entry}
use Rattle.run_output.specs.Counting.{no_totals, totals_from, with_version}
use Rattle.run_output.specs.Limiting.{HasAsked, IsLimited, rate_of}
use Rattle.run_output.specs.Outputs.{Course, lines_from, packets_from, totals_of}
use Rattle.run_output.specs.Versions.{NamedSlot, between, load_lines}

-- the limit of a run keeps back the same errors of its first records, whatever comes behind them
abbrev pub LimitsBegin : Type 0
LimitsBegin =
    (rate : Option ℕ) (form : Form) (rs more : List Rec) (es others : List Entry) (c : Course) → length es ≡ length rs →
    IsLimited rate form (rs ++ more) (es ++ others) c → IsLimited rate form rs es c

-- the same course, but for the errors that are kept back
pub record IsSameBut (c d : Course) : Type 0 where
  pub tables : d.tables ≡ c.tables
  pub version : d.version ≡ c.version
  pub loaded : d.loaded ≡ c.loaded

pub record IsLimitedAs (rate : Option ℕ) (form : Form) (rs : List Rec) (es : List Entry) (c : Course) : Type 0 where
  pub course : Course
  pub same : IsSameBut c course
  pub limited : IsLimited rate form rs es course

-- where a limiter was asked about all errors of a run, there is a course that keeps back those that it does not let through
abbrev pub LimitsAreSome : Type 0
LimitsAreSome =
    (form : Form) (rs : List Rec) (es : List Entry) (c : Course) (limit : Option Bucket) → length es ≡ length rs →
    HasAsked form rs es c limit → IsLimitedAs (rate_of limit) form rs es c

-- what records write is what the first of them write, and then the others
pub record AreJoined (c : Course) (w : Written) (number : ℕ) (rs more : List Rec) (es others : List Entry) : Type 0 where
  pub packets : packets_from c w number (rs ++ more) (es ++ others) ≡ packets_from c w number rs es ++ packets_from c w (number + length rs) more others
  pub lines : lines_from c number (es ++ others) ≡ lines_from c number es ++ lines_from c (number + length rs) others
  pub totals : (before : Totals) → totals_from c before number (es ++ others) ≡ totals_from c (totals_from c before number es) (number + length rs) others

abbrev pub RoundsJoin : Type 0
RoundsJoin =
    (c : Course) (w : Written) (number : ℕ) (rs more : List Rec) (es others : List Entry) → length es ≡ length rs →
    AreJoined c w number rs more es others

-- what was counted record by record are the totals of a run
abbrev pub CountsAreTotals : Type 0
CountsAreTotals =
    (c : Course) (form : Form) (rs : List Rec) → length (entries_of form rs) ≡ length rs →
    totals_of c form rs ≡ with_version (totals_from c no_totals 0 (entries_of form rs)) c.loaded

-- lines of loads, and those of the next ones
abbrev pub LoadLinesJoin : Type 0
LoadLinesJoin =
    (points : List ℕ) (loads : List NamedSlot) (from to : ℕ) → from ≤ to →
    load_lines points (take from loads) ++ load_lines points (between from to loads) ≡ load_lines points (take to loads)
