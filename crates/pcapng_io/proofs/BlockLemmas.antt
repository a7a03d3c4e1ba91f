-- A block from its frame and its body.
use Rattle.std.proofs.Common.{◌≡◌, ℕ, ◌+◌, ◌^◌, ◌<◌, ◌≤◌, ◌==◌, nat_lt, Bool, true, false, if◌then◌else◌, List, length, Option, Some, None, Result, Ok, Err, refl, sym, ◌∙◌, ap, subst, arith}
use Rattle.std.proofs.lemmas.Bool.Decides.{nat_tests}
use Rattle.aftr_base.specs.First.{first_true}
use Rattle.capture_io.specs.Words.{half_at}
use Rattle.capture_io.specs.declared.forms.CaptureBad.{CaptureBad}
use Rattle.capture_io.specs.declared.ng_bad.NgBad.{NgBad}
use Rattle.pcapng_io.specs.declared.frame.Frame.{Frame}
use Rattle.pcapng_io.specs.declared.block.Block.{Block}
use Rattle.pcapng_io.specs.declared.block.Block.TheVariants as block
use Rattle.pcapng_io.specs.Results.{unless, ◌>>=◌}
use Rattle.pcapng_io.specs.Seen.{Seen}
use Rattle.pcapng_io.specs.Frames.{enhanced_packet_type, frame_in, interface_type, old_packet_type, section_type, simple_packet_type}
use Rattle.pcapng_io.specs.Interfaces.{interface_in, interface_of, option_bytes, options_in, resolution_of, resolution_or_default, start_in}
use Rattle.pcapng_io.specs.Packets.{enhanced_packet, enhanced_refusals, simple_packet, simple_refusals}
use Rattle.pcapng_io.specs.Blocks.{block_in, body_in, size_of}
use Rattle.pcapng_io.specs.Files.{IsBefore}

abbrev pub HasTotal : ℕ → Block → Type 0
HasTotal total block.End = ⊥
HasTotal total (block.Packet p) = p.total ≡ total
HasTotal total (block.Passed p) = size_of p ≡ total

-- an answer that is a block has this length
abbrev IsOf : ℕ → Result Block CaptureBad → Type 0
IsOf total (Ok b) = HasTotal total b
IsOf total (Err refusal) = Unit {0}

of_unless : (total : ℕ) (refusal : Option NgBad) (b : Block) → HasTotal total b → IsOf total (unless refusal (Ok b))
of_unless total None b h = h
of_unless total (Some refusal) b h = tt

of_then : {A : Type 0} → (total : ℕ) (r : Result A CaptureBad) (f : A → Result Block CaptureBad) → ((a : A) → IsOf total (f a)) → IsOf total (r >>= f)
of_then total (Ok a) f h = h a
of_then total (Err refusal) f h = tt

of_test : (total : ℕ) (test : Bool) (r s : Result Block CaptureBad) → IsOf total r → IsOf total s → IsOf total (if test then r else s)
of_test total true r s h k = h
of_test total false r s h k = k

of_interface : (seen : Seen) (left : List ℕ) (frame : Frame) → IsOf frame.total (interface_in seen left frame)
of_interface seen left frame =
    of_then frame.total (start_in seen left frame) _ (λ start.
    of_then frame.total (resolution_of seen.known.at (options_in frame.big (option_bytes frame left))) _ (λ byte.
    of_then frame.total (interface_of seen.known.at start.most (resolution_or_default byte)) _ (λ interface. refl)))

of_body : (seen : Seen) (left : List ℕ) (number : ℕ) (frame : Frame) → IsOf frame.total (body_in seen left number frame)
of_body seen left number frame =
    of_test frame.total (frame.kind == section_type) _ _ (of_test frame.total (half_at frame.big left 12 == 1) _ _ refl tt)
    (of_test frame.total (frame.kind == old_packet_type) _ _ tt
    (of_test frame.total (frame.kind == interface_type) _ _ (of_interface seen left frame)
    (of_test frame.total (frame.kind == enhanced_packet_type) _ _
    (of_unless frame.total (first_true (enhanced_refusals seen left number frame))
    (block.Packet (enhanced_packet seen left frame)) refl)
    (of_test frame.total (frame.kind == simple_packet_type) _ _
    (of_unless frame.total (first_true (simple_refusals seen left number frame)) (block.Packet (simple_packet seen left frame)) refl) refl))))

pub body_total : (seen : Seen) (left : List ℕ) (number : ℕ) (frame : Frame) (b : Block) → body_in seen left number frame ≡ Ok b → HasTotal frame.total b
body_total seen left number frame b e = subst (IsOf frame.total) e (of_body seen left number frame)

before_by : (place at total : ℕ) (b : Block) → place < at + total → HasTotal total b → IsBefore place at b
before_by place at total block.End within h = tt
before_by place at total (block.Packet p) within h = omega arith
before_by place at total (block.Passed p) within h = omega arith

-- what a frame says of the block
pub near : (at : ℕ) → at ≤ 2 ^ 62 → nat_lt (2 ^ 62) at ≡ false
near at h = grind (arith, nat_tests)

block_of_frame : (seen : Seen) (left : List ℕ) (number : ℕ) (frame : Frame) → seen.known.at ≤ 2 ^ 62 → (length left == 0) ≡ false → frame_in seen.known.big left seen.known.at ≡ Ok frame →
    block_in seen left number ≡ body_in seen left number frame
block_of_frame seen left number frame n some e = rw (near seen.known.at n, some) (ap (λ r. r >>= (λ f. body_in seen left number f)) e)

-- a place in the frame is before the block's end
pub block_frame : (seen : Seen) (left : List ℕ) (number : ℕ) (b : Block) (place : ℕ) → seen.known.at ≤ 2 ^ 62 → ((frame : Frame) → frame_in seen.known.big left seen.known.at ≡ Ok frame → place < seen.known.at + frame.total) →
    block_in seen left number ≡ Ok b → IsBefore place seen.known.at b
block_frame seen left number b place n within e = by_end (length left == 0) refl
  where
    by_frame : (r : Result Frame CaptureBad) → frame_in seen.known.big left seen.known.at ≡ r → (length left == 0) ≡ false → IsBefore place seen.known.at b
    by_frame (Err refusal) f z =
        let none : block_in seen left number ≡ Err refusal = rw (near seen.known.at n, z) (ap (λ r. r >>= (λ x. body_in seen left number x)) f) in absurd (cc)
    by_frame (Ok frame) f z =
        let is : body_in seen left number frame ≡ Ok b = sym (block_of_frame seen left number frame n z f) ∙ e in
        before_by place seen.known.at frame.total b (within frame f) (body_total seen left number frame b is)

    by_end : (end : Bool) → (length left == 0) ≡ end → IsBefore place seen.known.at b
    by_end true z =
        let ends : block_in seen left number ≡ Ok block.End = rw (near seen.known.at n, z) refl in
        let is : block.End ≡ b = cc in
        subst (λ (x : Block). IsBefore place seen.known.at x) is tt
    by_end false z = by_frame (frame_in seen.known.big left seen.known.at) refl z
