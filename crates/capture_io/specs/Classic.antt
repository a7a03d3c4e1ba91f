-- A reader of a classic capture.
use Rattle.std.specs.Prelude.{◌≡◌, ℕ, ◌+◌, ◌<◌, Bool, true, false, None, List, drop, length, map, All, Option, Result, Ok, Err}
use Rattle.aftr_base.specs.declared.lists.OutOfMemory.{OutOfMemory}
use Rattle.aftr_io.specs.Outside.{OnlyReads, Readable}
use Rattle.capture_io.specs.declared.classic.ClassicReader.{ClassicReader}
use Rattle.capture_io.specs.declared.forms.CaptureBad.{CaptureBad}
use Rattle.capture_io.specs.declared.forms.CaptureError.{CaptureError}
use Rattle.capture_io.specs.declared.forms.Rec.{Rec}
use Rattle.capture_io.specs.declared.fronts.Taken.{Taken}
use Rattle.capture_io.specs.declared.records.Place.{Place}
use Rattle.capture_io.specs.Answers.{Agrees}
use Rattle.capture_io.specs.Capture.{IsCapture}
use Rattle.capture_io.specs.Fronts.{IsStart}
use Rattle.capture_io.specs.Header.{header_in}
use Rattle.capture_io.specs.Records.{IsWithin, placed}
use Rattle.capture_io.specs.Rounds.{Left, bytes_captured, is_cut}
use Rattle.capture_io.specs.Taken.{AreTaken, Ended, left_at}
use Rattle.capture_io.specs.Windows.{Ahead}

-- what was read ahead stands in these bytes, from the reader's place on
abbrev pub stands_in : ClassicReader → List ℕ → Type 0
stands_in r bytes = IsStart r.window.bytes (drop r.at bytes)

-- the records that stand from its place on
abbrev pub left_of : ClassicReader → Left
left_of r = left_at r.form.big r.at

-- A reader that was opened: it stands in these bytes, they have its header, and what is left is all of the capture.
pub record IsOpened (r : ClassicReader) (bytes : List ℕ) : Type 0 where
  pub header : header_in bytes ≡ Ok r.form
  pub stands : stands_in r bytes
  pub all : (rs : List Rec) (ending : Option CaptureBad) → left_of r bytes 0 rs ending → IsCapture bytes (Ok r.form) rs ending

-- opening gives such a reader, or the refusal of the header
abbrev pub Opens : Result ClassicReader CaptureError → List ℕ → Type 0
Opens (Ok r) bytes = IsOpened r bytes
Opens (Err e) bytes = Agrees (Err e) (header_in bytes)

-- where a read failed, it was one right behind the bytes that are there
abbrev pub FetchReads : Result Bool OutOfMemory → List ℕ → ℕ → Ahead → Readable → Readable → Type 0
FetchReads (Ok failed) name at window before now = OnlyReads failed name (λ place. place ≡ at + length window.bytes) before now
FetchReads (Err _) name at window before now = OnlyReads false name (λ _. Unit {0}) before now

-- The records that were taken off the bytes that are there; where a read failed behind them, none.
pub record IsTaken (big : Bool) (window : Ahead) (failed : Bool) (at number most : ℕ) (places : List Place) (taken : Taken) : Type 0 where
  pub are : AreTaken big window.bytes window.last at number most (map (placed window.bytes) places) taken.used taken.number
      (bytes_captured (map (placed window.bytes) places))
  pub ended : Ended big window.bytes window.last at taken.used taken.number taken.ending
  pub some : taken.ending ≡ None → 0 < length places
  pub within : All (IsWithin window.bytes) places
  pub cut : is_cut taken.ending ≡ failed
  pub stays : failed ≡ true → (taken.used ≡ 0) × (taken.number ≡ number)
