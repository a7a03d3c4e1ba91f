-- A capture of either format, as it is opened.
use Rattle.std.specs.Prelude.{◌≡◌, ℕ, ◌+◌, ◌*◌, ◌<◌, ◌≤◌, Bool, true, false, IsTrue, List, Option, Result, Ok, Err}
use Rattle.aftr_io.specs.Contents.{Contents, content, Told}
use Rattle.capture_io.specs.declared.forms.CaptureBad.{CaptureBad}
use Rattle.capture_io.specs.declared.forms.CaptureError.{CaptureError}
use Rattle.capture_io.specs.declared.forms.Form.{Form}
use Rattle.capture_io.specs.declared.forms.Rec.{Rec}
use Rattle.capture_io.specs.declared.written.Written.{Written}
use Rattle.capture_io.specs.declared.written.Written.TheVariants as written
use Rattle.capture_io.specs.Answers.{Agrees}
use Rattle.capture_io.specs.Classic as classic
use Rattle.capture_io.specs.Header as classic_header
use Rattle.pcapng_io.specs.declared.either.Reader.{Reader}
use Rattle.pcapng_io.specs.declared.either.Reader.TheVariants as reader
use Rattle.pcapng_io.specs.Answers.{EndsBehind}
use Rattle.pcapng_io.specs.Captures.{form_of, header_in, is_pcapng}
use Rattle.pcapng_io.specs.Rounds.{left_of}
use Rattle.pcapng_io.specs.Seen.{Seen}
use Rattle.pcapng_io.specs.Standing.{Opens, stands_in}

-- an error says what the header of the format is, or nothing of the bytes
abbrev pub RefusesBy : CaptureError → Bool → List ℕ → Type 0
RefusesBy error true bytes = Agrees {T = Seen} (Err error) (header_in bytes)
RefusesBy error false bytes = Agrees {T = Form} (Err error) (classic_header.header_in bytes)

-- the bytes are of the reader's format, and it stands behind their header
abbrev pub OpensEither : Result Reader CaptureError → List ℕ → Type 0
OpensEither (Ok (reader.Classic r)) bytes = (false ≡ is_pcapng bytes) × classic.IsOpened r bytes
OpensEither (Ok (reader.Blocks s)) bytes = (true ≡ is_pcapng bytes) × Opens (Ok s) bytes
OpensEither (Err error) bytes = RefusesBy error (is_pcapng bytes) bytes

-- told or not, it stands before the first record
abbrev pub IsFresh : Reader → Type 0
IsFresh (reader.Classic r) = (r.at ≡ 24) × IsTrue (classic_header.is_known_link r.form.link)
IsFresh (reader.Blocks s) = Unit {0}

-- a place of the file header
abbrev pub IsInHeadBy : Bool → List ℕ → ℕ → Type 0
IsInHeadBy true bytes place = (seen : Seen) → header_in bytes ≡ Ok seen → EndsBehind place seen.interfaces seen.known.at
IsInHeadBy false bytes place = place < 24

abbrev pub IsInHead : Option Contents → List ℕ → ℕ → Type 0
IsInHead held name place = Told held (λ m. IsInHeadBy (is_pcapng (content m name)) (content m name) place)

-- What a reader of rounds is, of either format: in which bytes it goes on, what is left of them, where the next record begins, of which
-- number it may be, and what is said of all.
abbrev pub stands_either : Reader → List ℕ → Type 0
stands_either (reader.Classic r) bytes = classic.stands_in r bytes
stands_either (reader.Blocks s) bytes = stands_in s bytes

abbrev pub left_either : Reader → List ℕ → ℕ → List Rec → Option CaptureBad → Type 0
left_either (reader.Classic r) bytes number rs ending = classic.left_of r bytes number rs ending
left_either (reader.Blocks s) bytes number rs ending = left_of s.seen bytes number rs ending

abbrev pub place_either : Reader → ℕ
place_either (reader.Classic r) = r.at
place_either (reader.Blocks s) = s.seen.known.at

abbrev pub ready_either : Reader → ℕ → Type 0
ready_either (reader.Classic r) number = (24 ≤ r.at) × (r.at ≤ 24 + 262160 * number)
ready_either (reader.Blocks s) number = Unit {0}

abbrev pub form_either : Reader → Form
form_either (reader.Classic r) = r.form
form_either (reader.Blocks s) = form_of s.seen.known

-- the form in which packets are written for it
abbrev pub written_as : Reader → Written
written_as (reader.Classic r) = written.Classic r.form.nano
written_as (reader.Blocks s) = written.Blocks
