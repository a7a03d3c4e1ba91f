-- What is written, read back.
use Rattle.std.proofs.Common.{◌≡◌, ℕ, suc, ◌+◌, ◌-◌, ◌*◌, ◌/◌, ◌%◌, ◌^◌, ◌<◌, ◌≤◌, ◌==◌, nat_lt, Bool, true, false, not, ◌&&◌, List, [], ◌∷◌, ◌++◌, length, drop, take, map, flat_map, replicate, All, Some, None, Result, Ok, refl, sym, ◌∙◌, ap, subst, append_assoc, arith}
use Rattle.std.proofs.lemmas.List.{drop-drop, length-append, length-replicate}
use Rattle.std.proofs.Math.Seq.{take-append_seam, drop-append_seam}
use Rattle.std.proofs.lemmas.Nat.{from_le_bytes-to_le_bytes_4}
use Rattle.std.proofs.lemmas.Bool.Decides.{nat_tests}
use Rattle.aftr_base.specs.First.{first_true}
use Rattle.aftr_base.specs.Numbers.{span}
use Rattle.capture_io.specs.declared.forms.CaptureBad.{CaptureBad}
use Rattle.capture_io.specs.declared.forms.Rec.{Rec}
use Rattle.capture_io.specs.declared.ng_bad.NgBad.TheVariants as ng
use Rattle.capture_io.specs.declared.written.Written.TheVariants as written
use Rattle.capture_io.specs.Packets.{block_head, block_len, block_tail, packet_bytes, padding, section_bytes, ticks}
use Rattle.capture_io.specs.Words.{word_at, word_bytes}
use Rattle.capture_io.specs.Written.{TimedPacket, timed, written_form}
use Rattle.pcapng_io.specs.declared.block.Block.TheVariants as block
use Rattle.pcapng_io.specs.declared.block.Packet.{Packet}
use Rattle.pcapng_io.specs.declared.block.Passed.TheVariants as passed
use Rattle.pcapng_io.specs.declared.frame.Frame.{Frame}
use Rattle.pcapng_io.specs.declared.interface.Interface.{Interface}
use Rattle.pcapng_io.specs.Results.{unless, ◌>>=◌}
use Rattle.pcapng_io.specs.Seen.{Seen}
use Rattle.pcapng_io.specs.Frames.{begins_section, frame_at, frame_in, has_no_order, is_no_total}
use Rattle.pcapng_io.specs.Packets.{captured_in, enhanced_in, nanos_of, seconds_of, ticks_in}
use Rattle.pcapng_io.specs.Blocks.{block_in, body_in, seen_after}
use Rattle.pcapng_io.specs.Captures.{at_start, form_of, Gives, header_in, IsCapture, next_in, open_by, open_within, Splits}
use Rattle.pcapng_io.specs.Spelled.{blocks_bytes, IsWritable}
use Rattle.pcapng_io.proofs.BlockLemmas.{near}
use Rattle.pcapng_io.proofs.StartLemmas.{to_body}
use Rattle.pcapng_io.proofs.WalkLemmas.{next_ends, next_packet}

-- a frame that meets none of the refusals
abbrev framed_by : List ℕ → ℕ → Frame → Result Frame CaptureBad
framed_by left at frame =
    unless (first_true ((nat_lt (length left) 12, ng.Cut at) ∷ (begins_section left && has_no_order left, ng.Order at) ∷ (is_no_total frame, ng.Length at)
    ∷ (nat_lt (length left) frame.total, ng.Cut at) ∷ (not (word_at frame.big left (frame.total - 4) == frame.total), ng.Length at) ∷ [])) (Ok frame)

frame_read : (left : List ℕ) (at : ℕ) (frame : Frame) → frame_at false left ≡ frame → nat_lt (length left) 12 ≡ false → (begins_section left && has_no_order left) ≡ false →
    is_no_total frame ≡ false → nat_lt (length left) frame.total ≡ false → not (word_at frame.big left (frame.total - 4) == frame.total) ≡ false → frame_in false left at ≡ Ok frame
frame_read left at frame is cut order size less differs =
    let first : frame_in false left at ≡ framed_by left at (frame_at false left) = refl in
    let last : framed_by left at frame ≡ Ok frame = rw (cut, order, size, less, differs) refl in
    first ∙ (ap (framed_by left at) is ∙ last)

-- the interface that is written
abbrev interface : Interface
interface = record { ticks = 1000000000; most = 262144 }

abbrev first_seen : Seen
first_seen = seen_after at_start (passed.Section false 28)

abbrev header_seen : Seen
header_seen = seen_after first_seen (passed.Interface interface 101 32)

section_block : (rest : List ℕ) → block_in at_start (section_bytes ++ rest) 0 ≡ Ok (block.Passed (passed.Section false 28))
section_block rest =
    let bytes = section_bytes ++ rest in
    let some : (length bytes == 0) ≡ false = grind (arith, nat_tests) in
    let cut : nat_lt (length bytes) 12 ≡ false = grind (arith, nat_tests) in
    let less : nat_lt (length bytes) 28 ≡ false = grind (arith, nat_tests) in
    let frame : Frame = record { big = false; kind = 0x0a0d0d0a; total = 28 } in
    let framed : frame_in false bytes 0 ≡ Ok frame = frame_read bytes 0 frame refl cut refl refl less refl in
    to_body at_start bytes 0 refl some ∙ ap (λ r. r >>= (λ f. body_in at_start bytes 0 f)) framed

interface_block : (rest : List ℕ) → block_in first_seen (drop 28 (section_bytes ++ rest)) 0 ≡ Ok (block.Passed (passed.Interface interface 101 32))
interface_block rest =
    let bytes = drop 28 (section_bytes ++ rest) in
    let some : (length bytes == 0) ≡ false = grind (arith, nat_tests) in
    let cut : nat_lt (length bytes) 12 ≡ false = grind (arith, nat_tests) in
    let less : nat_lt (length bytes) 32 ≡ false = grind (arith, nat_tests) in
    let frame : Frame = record { big = false; kind = 1; total = 32 } in
    let framed : frame_in false bytes 28 ≡ Ok frame = frame_read bytes 28 frame refl cut refl refl less refl in
    to_body first_seen bytes 0 refl some ∙ ap (λ r. r >>= (λ f. body_in first_seen bytes 0 f)) framed

open_two : (n : ℕ) (bytes : List ℕ) → block_in at_start bytes 0 ≡ Ok (block.Passed (passed.Section false 28)) →
    block_in first_seen (drop 28 bytes) 0 ≡ Ok (block.Passed (passed.Interface interface 101 32)) → open_within (suc (suc n)) at_start bytes ≡ Ok header_seen
open_two n bytes first second = ap (open_by (open_within (suc n)) at_start bytes) first ∙ ap (open_by (open_within n) first_seen (drop 28 bytes)) second

header_back : (rest : List ℕ) → header_in (section_bytes ++ rest) ≡ Ok header_seen
header_back rest =
    let bytes = section_bytes ++ rest in
    let count : suc (length bytes) ≡ suc (suc (59 + length rest)) = omega arith in
    ap (λ n. open_within n at_start bytes) count ∙ open_two (59 + length rest) bytes (section_block rest) (interface_block rest)

-- what a reader sees behind a packet that was written
abbrev seen_at : ℕ → ℕ → ℕ → Seen
seen_at at seconds nanos = record { known = record { at = at; big = false; link = Some 101; seconds = seconds; nanos = nanos }; interfaces = interface ∷ [] }

-- the words of a block that was written
record BlockBack (seconds fraction : ℕ) (packet rest left : List ℕ) : Type 0 where
  back_frame : frame_at false left ≡ record { big = false; kind = 6; total = block_len (length packet) }
  back_begins : begins_section left ≡ false
  back_sender : word_at false left 8 ≡ 0
  back_high : word_at false left 12 ≡ ticks seconds fraction / 2 ^ 32
  back_low : word_at false left 16 ≡ ticks seconds fraction % 2 ^ 32
  back_captured : word_at false left 20 ≡ length packet
  back_rest : drop 28 left ≡ packet ++ (block_tail (length packet) ++ rest)
  back_length : length left ≡ 28 + length (packet ++ (block_tail (length packet) ++ rest))

abbrev block_of : ℕ → ℕ → List ℕ → List ℕ
block_of seconds fraction packet = packet_bytes written.Blocks seconds fraction packet

regrouped : (head packet tail rest : List ℕ) → ((head ++ packet) ++ tail) ++ rest ≡ head ++ (packet ++ (tail ++ rest))
regrouped head packet tail rest = append_assoc (head ++ packet) tail rest ∙ append_assoc head packet (tail ++ rest)

ticks_small : (seconds fraction : ℕ) → seconds < 2 ^ 32 → fraction < 1000000000 → ticks seconds fraction < 2 ^ 64
ticks_small seconds fraction s f = omega arith

words_back : (seconds fraction : ℕ) (packet rest : List ℕ) → seconds < 2 ^ 32 → fraction < 1000000000 → length packet ≤ 65575 →
    BlockBack seconds fraction packet rest (block_head seconds fraction (length packet) ++ (packet ++ (block_tail (length packet) ++ rest)))
words_back seconds fraction packet rest s f n =
    let t = ticks seconds fraction in
    let small : t < 2 ^ 64 = ticks_small seconds fraction s f in
    let total : block_len (length packet) < 2 ^ 32 = omega arith in
    let high : t / 2 ^ 32 < 2 ^ 32 = omega (arith, small) in
    let low : t % 2 ^ 32 < 2 ^ 32 = omega arith in
    record {
      back_frame = λ i. record { big = false; kind = 6; total = from_le_bytes-to_le_bytes_4 (block_len (length packet)) total i };
      back_begins = refl;
      back_sender = refl;
      back_high = from_le_bytes-to_le_bytes_4 (t / 2 ^ 32) high;
      back_low = from_le_bytes-to_le_bytes_4 (t % 2 ^ 32) low;
      back_captured = from_le_bytes-to_le_bytes_4 (length packet) (omega arith);
      back_rest = refl;
      back_length = omega arith;
    }

-- the last four bytes of the block
tail_back : (packet rest left : List ℕ) → length packet ≤ 65575 → drop 28 left ≡ packet ++ (block_tail (length packet) ++ rest) →
    word_at false left (block_len (length packet) - 4) ≡ block_len (length packet)
tail_back packet rest left n back =
    let count = length packet in
    let zeros : List ℕ = replicate (padding count) 0 in
    let total = block_len count in
    let place : total - 4 ≡ 28 + (count + padding count) = omega arith in
    let behind_packet : drop count (packet ++ ((zeros ++ word_bytes false total) ++ rest)) ≡ zeros ++ (word_bytes false total ++ rest) =
    drop-append_seam packet ((zeros ++ word_bytes false total) ++ rest) ∙ append_assoc zeros (word_bytes false total) rest in
    let behind_zeros : drop (padding count) (zeros ++ (word_bytes false total ++ rest)) ≡ word_bytes false total ++ rest =
    ap (λ k. drop k (zeros ++ (word_bytes false total ++ rest))) (sym (length-replicate (padding count) 0)) ∙ drop-append_seam zeros (word_bytes false total ++ rest) in
    let there : drop (total - 4) left ≡ word_bytes false total ++ rest =
    ap (λ k. drop k left) place ∙ (sym (drop-drop (count + padding count) 28 left) ∙ (ap (drop (count + padding count)) back
    ∙ (sym (drop-drop (padding count) count (packet ++ ((zeros ++ word_bytes false total) ++ rest))) ∙ (ap (drop (padding count)) behind_packet ∙ behind_zeros)))) in
    let word : word_at false (word_bytes false total ++ rest) 0 ≡ total = from_le_bytes-to_le_bytes_4 total (omega arith) in
    ap (λ l. word_at false l 0) there ∙ word

same_test : (n : ℕ) → not (n == n) ≡ false
same_test n = grind (arith, nat_tests)

frame_back : (seconds fraction at : ℕ) (packet rest left : List ℕ) → length packet ≤ 65575 → BlockBack seconds fraction packet rest left →
    frame_in false left at ≡ Ok (record { big = false; kind = 6; total = block_len (length packet) })
frame_back seconds fraction at packet rest left n back =
    let count = length packet in
    let total = block_len count in
    let frame : Frame = record { big = false; kind = 6; total = total } in
    let long : total ≤ length left =
    omega (
      arith,
      back.back_length,
      length-append packet (block_tail count ++ rest),
      length-append (block_tail count) rest,
      length-append (replicate (padding count) 0) (word_bytes false total),
      length-replicate {A = ℕ} (padding count) 0,
    ) in
    let cut : nat_lt (length left) 12 ≡ false = grind (arith, nat_tests) in
    let order : (begins_section left && has_no_order left) ≡ false = ap (λ b. b && has_no_order left) back.back_begins in
    let words : (total % 4 == 0) ≡ true = (let m : total % 4 ≡ 0 = omega arith in grind (arith, nat_tests)) in
    let least : nat_lt total 32 ≡ false = grind (arith, nat_tests) in
    let size : is_no_total frame ≡ false = rw (words, least) refl in
    let less : nat_lt (length left) total ≡ false = grind (arith, nat_tests) in
    let differs : not (word_at false left (total - 4) == total) ≡ false = ap (λ w. not (w == total)) (tail_back packet rest left n back.back_rest) ∙ same_test total in
    frame_read left at frame back.back_frame cut order size less differs

-- the packet of the block
abbrev packet_of : ℕ → ℕ → List ℕ → Packet
packet_of seconds fraction packet = record { seconds = seconds; nanos = fraction; start = 28; count = length packet; total = block_len (length packet) }

enhanced_by : (at : ℕ) (none many long over late : Bool) (p q : Packet) → none ≡ false → many ≡ false → long ≡ false → over ≡ false → late ≡ false → p ≡ q →
    unless (first_true ((none, ng.Interface at) ∷ (many, ng.TooMany at) ∷ (long, ng.TooLong at) ∷ (over, ng.Captured at) ∷ (late, ng.Time at) ∷ [])) (Ok (block.Packet p)) ≡ Ok (block.Packet q)
enhanced_by at none many long over late p q a b c d e same = rw (a, b, c, d, e) (ap (λ x. Ok (block.Packet x)) same)

second_is : (seconds fraction : ℕ) → fraction < 1000000000 → ticks seconds fraction / 1000000000 ≡ seconds
second_is seconds fraction f = omega arith

rest_is : (seconds fraction : ℕ) → fraction < 1000000000 → ticks seconds fraction % 1000000000 * 1000000000 / 1000000000 ≡ fraction
rest_is seconds fraction f =
    let rest : ticks seconds fraction % 1000000000 ≡ fraction = omega arith in
    ap (λ r. r * 1000000000 / 1000000000) rest ∙ omega arith

body_back : (seconds fraction number at before rest_before : ℕ) (packet rest left : List ℕ) → seconds < 2 ^ 32 → fraction < 1000000000 → length packet ≤ 65575 → number < 2 ^ 31 →
    BlockBack seconds fraction packet rest left →
    body_in (seen_at at before rest_before) left number (record { big = false; kind = 6; total = block_len (length packet) }) ≡ Ok (block.Packet (packet_of seconds fraction packet))
body_back seconds fraction number at before rest_before packet rest left s f n few back =
    let count = length packet in
    let total = block_len count in
    let seen = seen_at at before rest_before in
    let frame : Frame = record { big = false; kind = 6; total = total } in
    let t = ticks seconds fraction in
    let tick : ticks_in frame left ≡ t = (λ i. back.back_high i * 2 ^ 32 + back.back_low i) ∙ (let whole : t / 2 ^ 32 * 2 ^ 32 + t % 2 ^ 32 ≡ t = omega arith in whole) in
    let sender : (not (nat_lt (word_at false left 8) 1)) ≡ false = ap (λ w. not (nat_lt w 1)) back.back_sender in
    let many : (number == 2 ^ 31) ≡ false = grind (arith, nat_tests) in
    let long : nat_lt 262144 (captured_in frame left) ≡ false = ap (λ w. nat_lt 262144 w) back.back_captured ∙ grind (arith, nat_tests) in
    let over : nat_lt (total - 32) (captured_in frame left) ≡ false = ap (λ w. nat_lt (total - 32) w) back.back_captured ∙ grind (arith, nat_tests) in
    let in_time : not (nat_lt seconds (2 ^ 32)) ≡ false = grind (arith, nat_tests) in
    let late : not (nat_lt (seconds_of interface (ticks_in frame left)) (2 ^ 32)) ≡ false =
    ap (λ x. not (nat_lt (x / 1000000000) (2 ^ 32))) tick ∙ (ap (λ x. not (nat_lt x (2 ^ 32))) (second_is seconds fraction f) ∙ in_time) in
    let second : seconds_of interface (ticks_in frame left) ≡ seconds = ap (λ x. x / 1000000000) tick ∙ second_is seconds fraction f in
    let nanos : nanos_of interface (ticks_in frame left) ≡ fraction = ap (λ x. x % 1000000000 * 1000000000 / 1000000000) tick ∙ rest_is seconds fraction f in
    let read : Packet = record { seconds = seconds_of interface (ticks_in frame left); nanos = nanos_of interface (ticks_in frame left); start = 28; count = captured_in frame left; total = total } in
    let same : read ≡ packet_of seconds fraction packet = λ i. record { seconds = second i; nanos = nanos i; start = 28; count = back.back_captured i; total = total } in
    let by_sender : (w : ℕ) → w ≡ 0 → word_at false left 8 ≡ w → enhanced_in seen left number frame ≡ Ok (block.Packet (packet_of seconds fraction packet)) =
    λ w zero_is is. rw (is ∙ zero_is) (enhanced_by at false (number == 2 ^ 31) (nat_lt 262144 (captured_in frame left)) (nat_lt (total - 32) (captured_in frame left))
    (not (nat_lt (seconds_of interface (ticks_in frame left)) (2 ^ 32))) read (packet_of seconds fraction packet) refl many long over late same) in
    by_sender 0 refl back.back_sender

abbrev Reads : List ℕ → List TimedPacket → ℕ → ℕ → ℕ → ℕ → Type 0
Reads left packets at number before rest_before = (rs : List Rec) × Splits (seen_at at before rest_before) left number rs None × (map timed rs ≡ packets)

packet_back : (seconds fraction number at before rest_before : ℕ) (packet rest left : List ℕ) → seconds < 2 ^ 32 → fraction < 1000000000 → length packet ≤ 65575 → number < 2 ^ 31 → at ≤ 2 ^ 62 →
    BlockBack seconds fraction packet rest left →
    next_in (seen_at at before rest_before) left number ≡ Ok (Gives (record { seconds = seconds; fraction = fraction; bytes = packet; next_at = at + block_len (length packet) }) (seen_at (at + block_len (length packet)) seconds fraction))
packet_back seconds fraction number at before rest_before packet rest left s f n few n_at back =
    let seen = seen_at at before rest_before in
    let count = length packet in
    let some : (length left == 0) ≡ false = (let more : 28 ≤ length left = omega (arith, back.back_length) in grind (arith, nat_tests)) in
    let is : block_in seen left number ≡ Ok (block.Packet (packet_of seconds fraction packet)) =
    to_body seen left number (near at n_at) some
    ∙ (ap (λ r. r >>= (λ x. body_in seen left number x)) (frame_back seconds fraction at packet rest left n back)
    ∙ body_back seconds fraction number at before rest_before packet rest left s f n few back) in
    let front : span left 28 count ≡ packet = ap (λ l. take count l) back.back_rest ∙ take-append_seam packet (block_tail count ++ rest) in
    next_packet seen left number (packet_of seconds fraction packet) is
    ∙ (λ i. Ok (Gives (record { seconds = seconds; fraction = fraction; bytes = front i; next_at = at + block_len count }) (seen_at (at + block_len count) seconds fraction)))

rest_back : (seconds fraction : ℕ) (packet rest left : List ℕ) → BlockBack seconds fraction packet rest left → drop (block_len (length packet)) left ≡ rest
rest_back seconds fraction packet rest left back =
    let count = length packet in
    let tail = block_tail count in
    let size : length tail ≡ padding count + 4 = length-append (replicate (padding count) 0) (word_bytes false (block_len count)) ∙ ap (λ k. k + 4) (length-replicate (padding count) 0) in
    let place : block_len count ≡ 28 + (count + length tail) = omega (arith, size) in
    ap (λ k. drop k left) place ∙ (sym (drop-drop (count + length tail) 28 left) ∙ (ap (drop (count + length tail)) back.back_rest
    ∙ (sym (drop-drop (length tail) count (packet ++ (tail ++ rest))) ∙ (ap (drop (length tail)) (drop-append_seam packet (tail ++ rest)) ∙ drop-append_seam tail rest))))

one_more : (p : TimedPacket) (packets : List TimedPacket) (at number before rest_before : ℕ) (left rest : List ℕ) → IsWritable p → number < 2 ^ 31 → at ≤ 2 ^ 62 →
    BlockBack p.seconds p.fraction p.packet rest left → Reads rest packets (at + block_len (length p.packet)) (number + 1) p.seconds p.fraction → Reads left (p ∷ packets) at number before rest_before
one_more p packets at number before rest_before left rest fit few n_at back after =
    let total = block_len (length p.packet) in
    let far : at + total - at ≡ total = omega arith in
    let behind : rest ≡ drop (at + total - at) left = sym (ap (λ k. drop k left) far ∙ rest_back p.seconds p.fraction p.packet rest left back) in
    let After : List ℕ → Type 0 = λ l. Splits (seen_at (at + total) p.seconds p.fraction) l (number + 1) after.0 None in (
      record { seconds = p.seconds; fraction = p.fraction; bytes = p.packet; next_at = at + total } ∷ after.0,
      (seen_at (at + total) p.seconds p.fraction, packet_back p.seconds p.fraction number at before rest_before p.packet rest left fit.seconds fit.fraction fit.size few n_at back, subst After behind after.1),
      ap (λ l. p ∷ l) after.2,
    )

abbrev spelling : TimedPacket → List ℕ
spelling p = packet_bytes written.Blocks p.seconds p.fraction p.packet

-- at most 65,611 bytes a packet
packets_back : (packets : List TimedPacket) (at number before rest_before : ℕ) → All IsWritable packets → number + length packets ≤ 2 ^ 31 → at ≤ 60 + 65612 * number →
    Reads (flat_map spelling packets) packets at number before rest_before
packets_back [] at number before rest_before each few n_at =
    let seen = seen_at at before rest_before in
    let ends : block_in seen [] number ≡ Ok block.End = rw (near at (omega arith)) refl in
    ([], next_ends seen [] number ends, refl)
packets_back (p ∷ packets) at number before rest_before each few n_at =
    let first : IsWritable p = each 0 p (omega arith) in
    let others : All IsWritable packets = λ k d within. each (suc k) d (omega arith) in
    let rest = flat_map spelling packets in
    let total : block_len (length p.packet) ≤ 65612 = omega (arith, first.size) in
    let after : Reads rest packets (at + block_len (length p.packet)) (number + 1) p.seconds p.fraction = packets_back packets (at + block_len (length p.packet)) (number + 1) p.seconds p.fraction others (omega arith) (omega (arith, total)) in
    let Back : List ℕ → Type 0 = λ l. BlockBack p.seconds p.fraction p.packet rest l in
    let back : Back (flat_map spelling (p ∷ packets)) =
    subst Back (sym (regrouped (block_head p.seconds p.fraction (length p.packet)) p.packet (block_tail (length p.packet)) rest))
    (words_back p.seconds p.fraction p.packet rest first.seconds first.fraction first.size) in
    one_more p packets at number before rest_before (flat_map spelling (p ∷ packets)) rest first (omega arith) (omega arith) back after

pub blocks_back : (packets : List TimedPacket) → All IsWritable packets → length packets ≤ 2 ^ 31 →
    (seen : Seen) × (rs : List Rec) × IsCapture (blocks_bytes packets) (Ok seen) rs None × (form_of seen.known ≡ written_form true) × (map timed rs ≡ packets)
blocks_back packets each few =
    let rest = flat_map spelling packets in
    let found : Reads rest packets 60 0 0 0 = packets_back packets 60 0 0 0 each (omega arith) (omega arith) in
    (header_seen, found.0, (header_back rest, found.1), refl, found.2)
