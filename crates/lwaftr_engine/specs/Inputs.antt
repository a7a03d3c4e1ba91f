-- What the bytes of a capture are that is read, of either format: a pcapng file begins with a section header, and every other file
-- is taken as a classic one.
use Rattle.std.specs.Prelude.{Bool, Err, List, Ok, Option, Result, false, length, nat_lt, not, true, ℕ, ◌≡◌}
use Rattle.lwaftr_engine.specs.Words.{CaptureBad, Form, Rec, Seen, Written}
use Rattle.capture_io.specs.Capture as classic
use Rattle.capture_io.specs.Header as classic_header
use Rattle.capture_io.specs.declared.written.Written.TheVariants as written
use Rattle.pcapng_io.specs.Captures as blocks

-- What is said of all records, in which form packets are written for them, and where the file header ends, if it does: a pcapng
-- file without an interface has a header that does not.
pub record Header : Type 0 where
  pub form : Form
  pub written : Written
  pub ends_at : ℕ
  pub has_end : Bool

-- packets are written with times of the same resolution
abbrev pub classic_of : Form → Header
classic_of form = record { form = form; written = written.Classic form.nano; ends_at = 24; has_end = true }

-- packets are written in blocks
abbrev pub blocks_of : Seen → Header
blocks_of seen = record {
  form = blocks.form_of seen.known;
  written = written.Blocks;
  ends_at = seen.known.at;
  has_end = not (nat_lt (length seen.interfaces) 1);
}

abbrev pub in_blocks : Result Seen CaptureBad → Result Header CaptureBad
in_blocks (Ok seen) = Ok (blocks_of seen)
in_blocks (Err refusal) = Err refusal

abbrev pub in_classic : Result Form CaptureBad → Result Header CaptureBad
in_classic (Ok form) = Ok (classic_of form)
in_classic (Err refusal) = Err refusal

abbrev pub header_by : Bool → List ℕ → Result Header CaptureBad
header_by true bytes = in_blocks (blocks.header_in bytes)
header_by false bytes = in_classic (classic_header.header_in bytes)

abbrev pub header_of : List ℕ → Result Header CaptureBad
header_of bytes = header_by (blocks.is_pcapng bytes) bytes

-- the bytes have a sound header, and behind it these records, after which they end so
abbrev pub IsInputBy : Bool → List ℕ → Header → List Rec → Option CaptureBad → Type 0
IsInputBy true bytes header rs ending = (seen : Seen) × (header ≡ blocks_of seen) × blocks.IsCapture bytes (Ok seen) rs ending
IsInputBy false bytes header rs ending = (form : Form) × (header ≡ classic_of form) × classic.IsCapture bytes (Ok form) rs ending

abbrev pub IsInput : List ℕ → Header → List Rec → Option CaptureBad → Type 0
IsInput bytes header rs ending = IsInputBy (blocks.is_pcapng bytes) bytes header rs ending
