-- The blocks of each kind, from their first bytes.
use Rattle.std.proofs.Common.{◌≡◌, ℕ, ◌-◌, ◌^◌, ◌<◌, ◌≤◌, ◌==◌, nat_lt, false, not, List, length, take, Ok, refl, sym, ◌∙◌, ap, subst, arith}
use Rattle.std.proofs.lemmas.Bool.Decides.{nat_tests}
use Rattle.pcapng_io.specs.declared.frame.Frame.{Frame}
use Rattle.pcapng_io.specs.Seen.{Seen}
use Rattle.pcapng_io.specs.Interfaces.{start_in}
use Rattle.capture_io.specs.Words.{word_at}
use Rattle.pcapng_io.specs.declared.block.Block.TheVariants as block
use Rattle.pcapng_io.specs.declared.interface.Interface.{Interface}
use Rattle.pcapng_io.specs.declared.packets.Time.{Time}
use Rattle.pcapng_io.specs.Packets.{enhanced_in, enhanced_packet, interface_at, nanos_of, seconds_of, section_in, sender_in, simple_in, ticks_in}
use Rattle.capture_io.proofs.LawLemmas.{span_front}

pub section_front : (at : ℕ) (frame : Frame) (left : List ℕ) → section_in at (take 14 left) frame ≡ section_in at left frame
section_front at frame left = rw (span_front left 14 12 2 (omega arith)) refl

pub enhanced_front : (seen : Seen) (number : ℕ) (frame : Frame) (left : List ℕ) → enhanced_in seen (take 24 left) number frame ≡ enhanced_in seen left number frame
enhanced_front seen number frame left =
    rw (span_front left 24 8 4 (omega arith), span_front left 24 12 4 (omega arith), span_front left 24 16 4 (omega arith), span_front left 24 20 4 (omega arith)) refl

-- a packet that is not refused, as the code has its fields
pub packet_said : (seen : Seen) (front : List ℕ) (number : ℕ) (frame : Frame) (sender count ticks : ℕ) (interface : Interface) (time : Time) → sender ≡ word_at frame.big front 8 → count ≡ word_at frame.big front 20 → ticks ≡ ticks_in frame front →
    time ≡ record { seconds = seconds_of interface ticks; nanos = nanos_of interface ticks } → interface ≡ interface_at seen.interfaces sender →
    sender < length seen.interfaces → (number ≡ 2 ^ 31 → ⊥) → count ≤ 262144 → count ≤ frame.total - 32 → time.seconds < 2 ^ 32 →
    Ok (block.Packet (record { seconds = time.seconds; nanos = time.nanos; start = 28; count = count; total = frame.total })) ≡ enhanced_in seen front number frame
packet_said seen front number frame sender count ticks interface time sender_is count_is ticks_is time_is at known few size captured near =
    let from : interface ≡ sender_in seen frame front = at ∙ ap (interface_at seen.interfaces) sender_is in
    let seconds : time.seconds ≡ seconds_of (sender_in seen frame front) (ticks_in frame front) =
    ap (λ (t : Time). t.seconds) time_is ∙ (ap (λ n. seconds_of n ticks) from ∙ ap (seconds_of (sender_in seen frame front)) ticks_is) in
    let nanos : time.nanos ≡ nanos_of (sender_in seen frame front) (ticks_in frame front) =
    ap (λ (t : Time). t.nanos) time_is ∙ (ap (λ n. nanos_of n ticks) from ∙ ap (nanos_of (sender_in seen frame front)) ticks_is) in
    let a : not (nat_lt (word_at frame.big front 8) (length seen.interfaces)) ≡ false = subst (λ n. not (nat_lt n (length seen.interfaces)) ≡ false) sender_is (grind (arith, nat_tests)) in
    let b : (number == 2 ^ 31) ≡ false = grind (arith, nat_tests) in
    let c : nat_lt 262144 (word_at frame.big front 20) ≡ false = subst (λ n. nat_lt 262144 n ≡ false) count_is (grind (arith, nat_tests)) in
    let d : nat_lt (frame.total - 32) (word_at frame.big front 20) ≡ false = subst (λ n. nat_lt (frame.total - 32) n ≡ false) count_is (grind (arith, nat_tests)) in
    let e : not (nat_lt (seconds_of (sender_in seen frame front) (ticks_in frame front)) (2 ^ 32)) ≡ false =
    subst (λ n. not (nat_lt n (2 ^ 32)) ≡ false) seconds (grind (arith, nat_tests)) in
    let said : enhanced_in seen front number frame ≡ Ok (block.Packet (enhanced_packet seen front frame)) = rw (a, b, c, d, e) refl in
    (λ i. Ok (block.Packet (record { seconds = seconds i; nanos = nanos i; start = 28; count = count_is i; total = frame.total }))) ∙ sym said

pub simple_front : (seen : Seen) (number : ℕ) (frame : Frame) (left : List ℕ) → simple_in seen (take 12 left) number frame ≡ simple_in seen left number frame
simple_front seen number frame left = rw (span_front left 12 8 4 (omega arith)) refl

pub start_front : (seen : Seen) (frame : Frame) (left : List ℕ) → start_in seen (take 16 left) frame ≡ start_in seen left frame
start_front seen frame left = rw (span_front left 16 8 2 (omega arith), span_front left 16 12 4 (omega arith)) refl
