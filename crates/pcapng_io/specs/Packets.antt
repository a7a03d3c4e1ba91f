-- Section headers and packet blocks (draft-ietf-opsawg-pcapng, sections 4.1, 4.3 and 4.4).
use Rattle.std.specs.Prelude.{ℕ, ◌+◌, ◌-◌, ◌*◌, ◌/◌, ◌%◌, ◌^◌, ◌==◌, nat_lt, Bool, not, ◌&&◌, if◌then◌else◌, List, [], ◌∷◌, length, get_or, Result, Ok, Err}
use Rattle.aftr_base.specs.First.{first_true}
use Rattle.capture_io.specs.Words.{half_at, word_at}
use Rattle.capture_io.specs.declared.forms.CaptureBad.{CaptureBad}
use Rattle.capture_io.specs.declared.forms.CaptureBad.TheVariants as bad
use Rattle.capture_io.specs.declared.ng_bad.NgBad.{NgBad}
use Rattle.capture_io.specs.declared.ng_bad.NgBad.TheVariants as ng
use Rattle.pcapng_io.specs.declared.frame.Frame.{Frame}
use Rattle.pcapng_io.specs.declared.interface.Interface.{Interface}
use Rattle.pcapng_io.specs.declared.block.Block.{Block}
use Rattle.pcapng_io.specs.declared.block.Block.TheVariants as block
use Rattle.pcapng_io.specs.declared.block.Packet.{Packet}
use Rattle.pcapng_io.specs.declared.block.Passed.TheVariants as passed
use Rattle.pcapng_io.specs.Results.{unless}
use Rattle.pcapng_io.specs.Seen.{Seen}

-- a section header of major version 1; its minor version, its length and its options are ignored
abbrev pub section_in : ℕ → List ℕ → Frame → Result Block CaptureBad
section_in at left frame =
    if half_at frame.big left 12 == 1 then Ok (block.Passed (passed.Section frame.big frame.total)) else Err (bad.Ng (ng.Version at))

-- the interface of a number, and something where the section has none
abbrev pub interface_at : List Interface → ℕ → Interface
interface_at interfaces number = get_or interfaces number (record { ticks = 1; most = 0 })

-- a time in ticks: the high word stands first
abbrev pub ticks_in : Frame → List ℕ → ℕ
ticks_in frame left = word_at frame.big left 12 * 2 ^ 32 + word_at frame.big left 16

abbrev pub seconds_of : Interface → ℕ → ℕ
seconds_of interface ticks = ticks / interface.ticks

-- the rest in nanoseconds, rounded down
abbrev pub nanos_of : Interface → ℕ → ℕ
nanos_of interface ticks = ticks % interface.ticks * 1000000000 / interface.ticks

-- the interface of an enhanced packet block, and its captured length
abbrev pub sender_in : Seen → Frame → List ℕ → Interface
sender_in seen frame left = interface_at seen.interfaces (word_at frame.big left 8)

abbrev pub captured_in : Frame → List ℕ → ℕ
captured_in frame left = word_at frame.big left 20

-- why a packet is refused (ours, but for the interface): at most 2^31 packets, of at most 262,144 bytes each
abbrev pub enhanced_refusals : Seen → List ℕ → ℕ → Frame → List (Bool × NgBad)
enhanced_refusals seen left number frame =
    (not (nat_lt (word_at frame.big left 8) (length seen.interfaces)), ng.Interface seen.known.at)
    ∷ (number == 2 ^ 31, ng.TooMany seen.known.at)
    ∷ (nat_lt 262144 (captured_in frame left), ng.TooLong seen.known.at)
    ∷ (nat_lt (frame.total - 32) (captured_in frame left), ng.Captured seen.known.at)
    ∷ (not (nat_lt (seconds_of (sender_in seen frame left) (ticks_in frame left)) (2 ^ 32)), ng.Time seen.known.at)
    ∷ []

abbrev pub enhanced_packet : Seen → List ℕ → Frame → Packet
enhanced_packet seen left frame = record {
  seconds = seconds_of (sender_in seen frame left) (ticks_in frame left);
  nanos = nanos_of (sender_in seen frame left) (ticks_in frame left);
  start = 28;
  count = captured_in frame left;
  total = frame.total;
}

abbrev pub enhanced_in : Seen → List ℕ → ℕ → Frame → Result Block CaptureBad
enhanced_in seen left number frame =
    unless (first_true (enhanced_refusals seen left number frame))
    (Ok (block.Packet (enhanced_packet seen left frame)))

-- a simple packet block has the original length alone; of it so many bytes are captured as the first interface keeps, where
-- that says how many
abbrev pub simple_captured : Interface → ℕ → ℕ
simple_captured interface original =
    if not (interface.most == 0) && nat_lt interface.most original then interface.most else original

abbrev pub simple_captured_in : Seen → Frame → List ℕ → ℕ
simple_captured_in seen frame left = simple_captured (interface_at seen.interfaces 0) (word_at frame.big left 8)

abbrev pub simple_refusals : Seen → List ℕ → ℕ → Frame → List (Bool × NgBad)
simple_refusals seen left number frame =
    (length seen.interfaces == 0, ng.Interface seen.known.at)
    ∷ (number == 2 ^ 31, ng.TooMany seen.known.at)
    ∷ (nat_lt 262144 (simple_captured_in seen frame left), ng.TooLong seen.known.at)
    ∷ (nat_lt (frame.total - 16) (simple_captured_in seen frame left), ng.Captured seen.known.at)
    ∷ []

-- it has no time of its own: it gets that of the packet before it (ours)
abbrev pub simple_packet : Seen → List ℕ → Frame → Packet
simple_packet seen left frame = record {
  seconds = seen.known.seconds;
  nanos = seen.known.nanos;
  start = 12;
  count = simple_captured_in seen frame left;
  total = frame.total;
}

abbrev pub simple_in : Seen → List ℕ → ℕ → Frame → Result Block CaptureBad
simple_in seen left number frame =
    unless (first_true (simple_refusals seen left number frame))
    (Ok (block.Packet (simple_packet seen left frame)))
