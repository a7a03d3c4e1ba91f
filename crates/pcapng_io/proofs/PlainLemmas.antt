-- An enhanced packet block that is all there and that nothing refuses.
use Rattle.std.proofs.Common.{◌≡◌, ℕ, ◌-◌, ◌%◌, ◌^◌, ◌<◌, ◌≤◌, ◌==◌, nat_lt, Bool, true, false, not, ◌&&◌, List, ◌∷◌, [], length, Ok, refl, sym, ◌∙◌, ap, subst, arith}
use Rattle.std.proofs.lemmas.Bool.Decides.{nat_tests}
use Rattle.aftr_base.specs.First.{first_true}
use Rattle.capture_io.specs.Words.{word_at}
use Rattle.capture_io.specs.declared.ng_bad.NgBad.{NgBad}
use Rattle.capture_io.specs.declared.ng_bad.NgBad.TheVariants as ng
use Rattle.pcapng_io.specs.declared.frame.Frame.{Frame}
use Rattle.pcapng_io.specs.declared.block.Block.TheVariants as block
use Rattle.pcapng_io.specs.declared.block.Block.{Block}
use Rattle.pcapng_io.specs.declared.block.Known.{Known}
use Rattle.pcapng_io.specs.declared.block.Packet.{Packet}
use Rattle.pcapng_io.specs.declared.interface.Interface.{Interface}
use Rattle.pcapng_io.specs.declared.fronts.Front.TheVariants as front
use Rattle.pcapng_io.specs.Results.{unless}
use Rattle.pcapng_io.specs.Seen.{Seen, seen_by}
use Rattle.pcapng_io.specs.Frames.{begins_section, enhanced_packet_type, frame_at, frame_in, has_no_order, head_in, is_no_total, order_of}
use Rattle.pcapng_io.specs.Packets.{captured_in, enhanced_in, enhanced_packet, interface_at, seconds_of, ticks_in}
use Rattle.pcapng_io.specs.Files.{IsSoundPacket}
use Rattle.pcapng_io.specs.Blocks.{block_in}
use Rattle.pcapng_io.specs.Fronts.{front_by, front_in, is_short, IsSaidAnywhere, IsSoundAnywhere}
use Rattle.pcapng_io.proofs.FrameLemmas.{frame_head}

-- the frame of an enhanced packet block
abbrev pub enhanced_frame : Bool → ℕ → Frame
enhanced_frame big total = record { big = big; kind = enhanced_packet_type; total = total }

-- a frame of which no test refuses anything
unrefused : (big : Bool) (left : List ℕ) (at : ℕ) (frame : Frame) → nat_lt (length left) 12 ≡ false → begins_section left ≡ false → frame_at big left ≡ frame →
    is_no_total frame ≡ false → nat_lt (length left) frame.total ≡ false → (word_at frame.big left (frame.total - 4) == frame.total) ≡ true → frame_in big left at ≡ Ok frame
unrefused big left at frame cut kind is size less tail =
    let P : Frame → Type 0 = λ f. unless (first_true ((nat_lt (length left) 12, ng.Cut at) ∷ (begins_section left && has_no_order left, ng.Order at) ∷ (is_no_total f, ng.Length at)
    ∷ (nat_lt (length left) f.total, ng.Cut at) ∷ (not (word_at f.big left (f.total - 4) == f.total), ng.Length at) ∷ [])) (Ok f) ≡ Ok frame in
    let found : P frame = rw (cut, kind, size, less, tail) refl in
    subst P (sym is) found

pub enhanced_found : (big : Bool) (left : List ℕ) (at total : ℕ) → begins_section left ≡ false → word_at big left 0 ≡ enhanced_packet_type → word_at big left 4 ≡ total →
    total % 4 ≡ 0 → 32 ≤ total → total ≤ length left → word_at big left (total - 4) ≡ total → frame_in big left at ≡ Ok (enhanced_frame big total)
enhanced_found big left at total other kind len fourth least whole tail =
    let order : order_of big left ≡ big = rw other refl in
    let is : frame_at big left ≡ enhanced_frame big total =
    (λ i. record { big = order i; kind = word_at (order i) left 0; total = word_at (order i) left 4 }) ∙ (λ i. record { big = big; kind = kind i; total = len i }) in
    let fits : nat_lt total 32 ≡ false = grind (arith, nat_tests) in
    let fours : (total % 4 == 0) ≡ true = grind (arith, nat_tests) in
    let size : is_no_total (enhanced_frame big total) ≡ false = rw (fits, fours) refl in
    unrefused big left at (enhanced_frame big total) (grind (arith, nat_tests)) other is size (grind (arith, nat_tests)) (grind (arith, nat_tests))

-- such a packet is what the front says, whether or not something follows
pub packet_front : (seen : Seen) (big : Bool) (first : List ℕ) (number total : ℕ) (p : Packet) → big ≡ seen.known.big → seen.known.at ≤ 2 ^ 62 → 32 ≤ total → total ≤ length first →
    frame_in big first seen.known.at ≡ Ok (enhanced_frame big total) → enhanced_in seen first number (enhanced_frame big total) ≡ Ok (block.Packet p) →
    (last : Bool) → front_in seen first last number ≡ front.Packet p
packet_front seen big first number total p order near least whole found packet last =
    let frame : frame_in seen.known.big first seen.known.at ≡ Ok (enhanced_frame big total) =
    subst (λ (b : Bool). frame_in b first seen.known.at ≡ Ok (enhanced_frame big total)) order found in
    let far : nat_lt (2 ^ 62) seen.known.at ≡ false = grind (arith, nat_tests) in
    let some : (length first == 0) ≡ false = grind (arith, nat_tests) in
    let head : head_in seen.known.big first seen.known.at ≡ Ok (enhanced_frame big total) = frame_head seen.known.big first seen.known.at (enhanced_frame big total) frame in
    let enough : nat_lt (length first) total ≡ false = grind (arith, nat_tests) in
    let short : is_short seen first ≡ false = rw (far, head, enough) refl in
    let stands : block_in seen first number ≡ Ok (block.Packet p) = rw (far, some, frame) packet in
    by_last last short stands
  where
    by_last : (b : Bool) → is_short seen first ≡ false → block_in seen first number ≡ Ok (block.Packet p) → front_in seen first b number ≡ front.Packet p
    by_last true short stands = ap front_by stands
    by_last false short stands = rw short (ap front_by stands)

-- A packet that is not refused at one place under the number 0 is not refused at another one, nor under another number: each test but
-- that of the number is of the block and of the interfaces alone.
same_tests : (interface long captured time : Bool) (i0 m0 l0 c0 t0 i1 m1 l1 c1 t1 : NgBad) (b p : Block) →
    unless (first_true ((interface, i0) ∷ (false, m0) ∷ (long, l0) ∷ (captured, c0) ∷ (time, t0) ∷ [])) (Ok b) ≡ Ok p →
    unless (first_true ((interface, i1) ∷ (false, m1) ∷ (long, l1) ∷ (captured, c1) ∷ (time, t1) ∷ [])) (Ok b) ≡ Ok p
same_tests false false false false i0 m0 l0 c0 t0 i1 m1 l1 c1 t1 b p e = e
same_tests true long captured time i0 m0 l0 c0 t0 i1 m1 l1 c1 t1 b p e = absurd (cc)
same_tests false true captured time i0 m0 l0 c0 t0 i1 m1 l1 c1 t1 b p e = absurd (cc)
same_tests false false true time i0 m0 l0 c0 t0 i1 m1 l1 c1 t1 b p e = absurd (cc)
same_tests false false false true i0 m0 l0 c0 t0 i1 m1 l1 c1 t1 b p e = absurd (cc)

enhanced_anywhere : (at known : Known) (interfaces : List Interface) (left : List ℕ) (number : ℕ) (frame : Frame) (p : Packet) → number < 2 ^ 31 →
    enhanced_in (seen_by at interfaces) left 0 frame ≡ Ok (block.Packet p) → enhanced_in (seen_by known interfaces) left number frame ≡ Ok (block.Packet p)
enhanced_anywhere at known interfaces left number frame p few e =
    let numbered : (number == 2 ^ 31) ≡ false = grind (arith, nat_tests) in
    let sender = interface_at interfaces (word_at frame.big left 8) in
    rw numbered (same_tests (not (nat_lt (word_at frame.big left 8) (length interfaces))) (nat_lt 262144 (captured_in frame left))
    (nat_lt (frame.total - 32) (captured_in frame left)) (not (nat_lt (seconds_of sender (ticks_in frame left)) (2 ^ 32)))
    (ng.Interface at.at) (ng.TooMany at.at) (ng.TooLong at.at) (ng.Captured at.at) (ng.Time at.at)
    (ng.Interface known.at) (ng.TooMany known.at) (ng.TooLong known.at) (ng.Captured known.at) (ng.Time known.at)
    (block.Packet (enhanced_packet (seen_by known interfaces) left frame)) (block.Packet p) e)

-- so the front says it anywhere
pub said_anywhere : (at : Known) (big : Bool) (interfaces : List Interface) (first : List ℕ) (total : ℕ) (p : Packet) → 32 ≤ total → total ≤ length first →
    ((place : ℕ) → frame_in big first place ≡ Ok (enhanced_frame big total)) → enhanced_in (seen_by at interfaces) first 0 (enhanced_frame big total) ≡ Ok (block.Packet p) →
    IsSaidAnywhere big interfaces first p
said_anywhere at big interfaces first total p least whole found packet = λ known number last order near few.
    packet_front (seen_by known interfaces) big first number total p (sym order) near least whole (found known.at)
    (enhanced_anywhere at known interfaces first number (enhanced_frame big total) p few packet) last

pub sound_anywhere : (p : Packet) → IsSoundPacket 0 p → IsSoundAnywhere p
sound_anywhere p s = λ number few. record { in_count = few; size = s.size; time = s.time; front = s.front; inside = s.inside; long = s.long }
