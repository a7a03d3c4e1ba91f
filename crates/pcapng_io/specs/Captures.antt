-- A whole pcapng file: blocks are taken off the front, one by one.
use Rattle.std.specs.Prelude.{◌≡◌, ℕ, zero, suc, ◌+◌, ◌-◌, nat_lt, Bool, true, false, ◌&&◌, List, [], ◌∷◌, length, drop, Option, Some, None, Result, Ok, Err}
use Rattle.capture_io.specs.declared.forms.Form.{Form}
use Rattle.capture_io.specs.declared.forms.Rec.{Rec}
use Rattle.capture_io.specs.declared.forms.CaptureBad.{CaptureBad}
use Rattle.pcapng_io.specs.declared.block.Known.{Known}
use Rattle.pcapng_io.specs.declared.block.Block.{Block}
use Rattle.pcapng_io.specs.declared.block.Block.TheVariants as block
use Rattle.pcapng_io.specs.declared.block.Passed.TheVariants as passed
use Rattle.pcapng_io.specs.Seen.{Seen}
use Rattle.pcapng_io.specs.Frames.{begins_section}
use Rattle.pcapng_io.specs.Blocks.{block_in, record_of, seen_after, seen_behind, size_of}

-- the first packet that is left, with what is known behind its block, or no packet
pub data Step : Type 0 where
  Gives : Rec → Seen → Step
  Ends : Step

-- The first packet at a block or behind it. Each block has at least 12 bytes, so there are no more blocks than bytes, and the
-- count never runs out.
abbrev pub step_by : (Seen → List ℕ → Result Step CaptureBad) → Seen → List ℕ → Result Block CaptureBad → Result Step CaptureBad
step_by later seen left (Err refusal) = Err refusal
step_by later seen left (Ok block.End) = Ok Ends
step_by later seen left (Ok (block.Packet p)) = Ok (Gives (record_of seen.known left p) (seen_behind seen p))
step_by later seen left (Ok (block.Passed p)) = later (seen_after seen p) (drop (size_of p) left)

abbrev pub next_within : ℕ → ℕ → Seen → List ℕ → Result Step CaptureBad
next_within zero number seen left = Ok Ends
next_within (suc blocks) number seen left = step_by (next_within blocks number) seen left (block_in seen left number)

-- the packet of a number, where `left` is what is left of the file from the place that is seen
abbrev pub next_in : Seen → List ℕ → ℕ → Result Step CaptureBad
next_in seen left number = next_within (suc (length left)) number seen left

-- What is left are these records and no more: after the last of them the file ends, or something is refused. The first of them
-- has this number.
abbrev pub Splits : Seen → List ℕ → ℕ → List Rec → Option CaptureBad → Type 0
Splits seen left number [] None = next_in seen left number ≡ Ok Ends
Splits seen left number [] (Some refusal) = next_in seen left number ≡ Err refusal
Splits seen left number (r ∷ rs) ending =
    (behind : Seen) × (next_in seen left number ≡ Ok (Gives r behind)) × Splits behind (drop (behind.known.at - seen.known.at) left) (number + 1) rs ending

-- nothing is known at the beginning
abbrev pub at_start : Seen
at_start = record { known = record { at = 0; big = false; link = None; seconds = 0; nanos = 0 }; interfaces = [] }

-- a file without an interface counts as one of plain IP (ours)
abbrev pub as_plain : Seen → Seen
as_plain seen = record { known = record seen.known { link = Some 101 }; interfaces = seen.interfaces }

-- The file header is the blocks up to the file's first interface, or all blocks where there is none. A packet in front of it
-- is refused, since its section has no interface.
abbrev pub open_by : (Seen → List ℕ → Result Seen CaptureBad) → Seen → List ℕ → Result Block CaptureBad → Result Seen CaptureBad
open_by later seen left (Err refusal) = Err refusal
open_by later seen left (Ok block.End) = Ok (as_plain seen)
open_by later seen left (Ok (block.Packet p)) = Ok (as_plain seen)
open_by later seen left (Ok (block.Passed (passed.Section big total))) = later (seen_after seen (passed.Section big total)) (drop total left)
open_by later seen left (Ok (block.Passed (passed.Interface interface link total))) = Ok (seen_after seen (passed.Interface interface link total))
open_by later seen left (Ok (block.Passed (passed.Other total))) = later (seen_after seen (passed.Other total)) (drop total left)

abbrev pub open_within : ℕ → Seen → List ℕ → Result Seen CaptureBad
open_within zero seen left = Ok (as_plain seen)
open_within (suc blocks) seen left = open_by (open_within blocks) seen left (block_in seen left 0)

abbrev pub header_in : List ℕ → Result Seen CaptureBad
header_in bytes = open_within (suc (length bytes)) at_start bytes

-- a file begins as a pcapng file does: with a section header
abbrev pub is_pcapng : List ℕ → Bool
is_pcapng bytes = nat_lt 3 (length bytes) && begins_section bytes

-- what is said of all its records: times in nanoseconds, and the first interface's link type, or plain IP where there is no
-- interface
abbrev pub link_or_plain : Option ℕ → ℕ
link_or_plain None = 101
link_or_plain (Some link) = link

abbrev pub form_of : Known → Form
form_of known = record { big = false; nano = true; link = link_or_plain known.link }

-- The bytes of a pcapng file are a header and these records; a header that is refused leaves none.
abbrev pub IsCapture : List ℕ → Result Seen CaptureBad → List Rec → Option CaptureBad → Type 0
IsCapture bytes (Ok seen) rs ending = (header_in bytes ≡ Ok seen) × Splits seen (drop seen.known.at bytes) 0 rs ending
IsCapture bytes (Err refusal) rs ending = (header_in bytes ≡ Err refusal) × (rs ≡ []) × (ending ≡ Some refusal)
