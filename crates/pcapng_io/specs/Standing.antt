-- Where a reader stands.
use Rattle.std.specs.Prelude.{◌≡◌, ℕ, List, drop, Result, Ok, Err}
use Rattle.capture_io.specs.declared.forms.CaptureError.{CaptureError}
use Rattle.capture_io.specs.Answers.{Agrees}
use Rattle.capture_io.specs.Fronts.{IsStart}
use Rattle.pcapng_io.specs.Seen.{Seen}
use Rattle.pcapng_io.specs.Captures.{header_in}

-- what the blocks in front of its place say, and what it read already of the bytes from its place on
pub record Standing : Type 0 where
  pub seen : Seen
  pub ahead : List ℕ

-- what was read ahead stands in these bytes, from the reader's place on
abbrev pub stands_in : Standing → List ℕ → Type 0
stands_in reader bytes = IsStart reader.ahead (drop reader.seen.known.at bytes)

-- opening gives a reader that stands in these bytes behind their header, or the header's refusal
abbrev pub Opens : Result Standing CaptureError → List ℕ → Type 0
Opens (Ok reader) bytes = (header_in bytes ≡ Ok reader.seen) × stands_in reader bytes
Opens (Err error) bytes = Agrees {T = Seen} (Err error) (header_in bytes)
