-- Captures as they are written: little-endian, version 2.4, link type 101.
use Rattle.std.specs.Prelude.{ℕ, ◌+◌, ◌^◌, ◌<◌, ◌≤◌, Bool, false, List, ◌++◌, length, flat_map}
use Rattle.capture_io.specs.declared.forms.Form.{Form}
use Rattle.capture_io.specs.declared.forms.Rec.{Rec}
use Rattle.capture_io.specs.Words.{half_bytes, word_bytes}
use Rattle.capture_io.specs.Header.{magic}

-- a file header: no correction of the clock and no accuracy, a snapshot length of 262144, and plain IP
abbrev pub header_bytes : Bool → List ℕ
header_bytes nano =
    word_bytes false (magic nano) ++ half_bytes false 2 ++ half_bytes false 4 ++ word_bytes false 0 ++ word_bytes false 0
    ++ word_bytes false 262144 ++ word_bytes false 101

-- a record as a capture of this byte order spells it, with some original length
abbrev pub spelled : Bool → ℕ → ℕ → ℕ → List ℕ → List ℕ
spelled big seconds fraction original bytes =
    word_bytes big seconds ++ word_bytes big fraction ++ word_bytes big (length bytes) ++ word_bytes big original ++ bytes

-- a record as it is written: the original length is the captured one
abbrev pub record_bytes : ℕ → ℕ → List ℕ → List ℕ
record_bytes seconds fraction packet = spelled false seconds fraction (length packet) packet

-- a packet with its time
pub record TimedPacket : Type 0 where
  pub seconds : ℕ
  pub fraction : ℕ
  pub packet : List ℕ

-- a packet that a record can hold
pub record IsRecordable (p : TimedPacket) : Type 0 where
  pub seconds : p.seconds < 2 ^ 32
  pub fraction : p.fraction < 2 ^ 32
  pub size : length p.packet ≤ 262144

-- the capture of a list of packets
abbrev pub capture_bytes : Bool → List TimedPacket → List ℕ
capture_bytes nano packets = header_bytes nano ++ flat_map (λ p. record_bytes p.seconds p.fraction p.packet) packets

-- a record that was read, as a packet with its time
abbrev pub timed : Rec → TimedPacket
timed r = record { seconds = r.seconds; fraction = r.fraction; packet = r.bytes }

-- a packet with its time, as the record at a place
abbrev pub recorded : ℕ → TimedPacket → Rec
recorded at p = record { seconds = p.seconds; fraction = p.fraction; bytes = p.packet; next_at = at + 16 + length p.packet }

-- the form of a capture that is written
abbrev pub written_form : Bool → Form
written_form nano = record { big = false; nano = nano; link = 101 }
