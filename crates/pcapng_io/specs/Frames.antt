-- What all blocks of a pcapng file have (draft-ietf-opsawg-pcapng, section 3.1): a type and a total length of 32 bits each,
-- a body, and the total length again. `left` is what is left of the file from the block's place on.
use Rattle.std.specs.Prelude.{ℕ, ◌-◌, ◌%◌, ◌==◌, nat_lt, Bool, true, false, not, ◌&&◌, ◌||◌, if◌then◌else◌, List, [], ◌∷◌, ◌++◌, length, Result, Ok}
use Rattle.aftr_base.specs.First.{first_true}
use Rattle.capture_io.specs.Words.{word_at}
use Rattle.capture_io.specs.declared.forms.CaptureBad.{CaptureBad}
use Rattle.capture_io.specs.declared.ng_bad.NgBad.{NgBad}
use Rattle.capture_io.specs.declared.ng_bad.NgBad.TheVariants as ng
use Rattle.pcapng_io.specs.declared.frame.Frame.{Frame}
use Rattle.pcapng_io.specs.Results.{unless}

-- the block types that are read; the first is the same in both orders (sections 4.1 to 4.4, and appendix A for the obsolete one)
abbrev pub section_type : ℕ
section_type = 0x0a0d0d0a

abbrev pub interface_type : ℕ
interface_type = 1

abbrev pub old_packet_type : ℕ
old_packet_type = 2

abbrev pub simple_packet_type : ℕ
simple_packet_type = 3

abbrev pub enhanced_packet_type : ℕ
enhanced_packet_type = 6

abbrev pub begins_section : List ℕ → Bool
begins_section left = word_at false left 0 == section_type

-- a section header's byte-order magic, in this order
abbrev pub has_order : Bool → List ℕ → Bool
has_order big left = word_at big left 8 == 0x1a2b3c4d

abbrev pub has_no_order : List ℕ → Bool
has_no_order left = not (has_order true left || has_order false left)

-- the order of a block's numbers: a section header has its own, any other block that of its section
abbrev pub order_of : Bool → List ℕ → Bool
order_of big left = if begins_section left then has_order true left else big

-- how many bytes a block of a type has at least
abbrev pub least_total : ℕ → ℕ
least_total kind =
    if kind == section_type then 28
    else if kind == interface_type then 20
    else if kind == enhanced_packet_type then 32
    else if kind == simple_packet_type then 16
    else 12

-- what the first bytes say, in a section of this order
abbrev pub frame_at : Bool → List ℕ → Frame
frame_at big left = record {
  big = order_of big left;
  kind = word_at (order_of big left) left 0;
  total = word_at (order_of big left) left 4;
}

-- a total length that no block of its type has
abbrev pub is_no_total : Frame → Bool
is_no_total frame = not (frame.total % 4 == 0) || nat_lt frame.total (least_total frame.kind)

-- why the first twelve bytes are refused: each condition with its refusal
abbrev pub head_refusals : Bool → List ℕ → ℕ → List (Bool × NgBad)
head_refusals big left at =
    (nat_lt (length left) 12, ng.Cut at)
    ∷ (begins_section left && has_no_order left, ng.Order at)
    ∷ (is_no_total (frame_at big left), ng.Length at)
    ∷ []

-- and why the block is, by what is left and by its last four bytes
abbrev pub tail_refusals : Frame → List ℕ → ℕ → List (Bool × NgBad)
tail_refusals frame left at =
    (nat_lt (length left) frame.total, ng.Cut at)
    ∷ (not (word_at frame.big left (frame.total - 4) == frame.total), ng.Length at)
    ∷ []

abbrev pub frame_in : Bool → List ℕ → ℕ → Result Frame CaptureBad
frame_in big left at =
    unless (first_true (head_refusals big left at ++ tail_refusals (frame_at big left) left at)) (Ok (frame_at big left))

-- a frame whose first twelve bytes are not refused
abbrev pub head_in : Bool → List ℕ → ℕ → Result Frame CaptureBad
head_in big left at = unless (first_true (head_refusals big left at)) (Ok (frame_at big left))
