-- What a record's bytes carry, by the link type of the capture.
use Rattle.std.specs.Prelude.{ℕ, ◌+◌, ◌/◌, ◌==◌, nat_lt, if◌then◌else◌, List, length, drop, slice_index}
use Rattle.aftr_base.specs.Numbers.{big_endian, span}
use Rattle.capture_io.specs.declared.frames.Frame.{Frame}
use Rattle.capture_io.specs.declared.frames.Frame.TheVariants as frame

-- an IPv4 packet, an IPv6 packet, too few bytes, or something else
pub data Carried : Type 0 where
  Packet4 : List ℕ → Carried
  Packet6 : List ℕ → Carried
  TooFew : Carried
  Other : Carried

-- plain IP: the first four bits are the version (RFC 791, section 3.1; RFC 8200, section 3)
abbrev pub plain : List ℕ → Carried
plain bytes =
    if length bytes == 0 then TooFew
    else if slice_index bytes 0 / 16 == 4 then Packet4 bytes
    else if slice_index bytes 0 / 16 == 6 then Packet6 bytes
    else Other

-- the 16-bit Ethernet type at a place
abbrev pub type_at : List ℕ → ℕ → ℕ
type_at bytes at = big_endian (span bytes at 2)

-- what the Ethernet type at a place says of the bytes behind it (RFC 894; RFC 2464, section 3)
abbrev pub behind_type : List ℕ → ℕ → Carried
behind_type bytes at =
    if type_at bytes at == 0x0800 then Packet4 (drop (at + 2) bytes)
    else if type_at bytes at == 0x86dd then Packet6 (drop (at + 2) bytes)
    else Other

-- an Ethernet frame, with one VLAN tag (IEEE 802.1Q, type 0x8100) or none
abbrev pub ethernet : List ℕ → Carried
ethernet bytes =
    if nat_lt (length bytes) 14 then TooFew
    else if type_at bytes 12 == 0x8100 then (if nat_lt (length bytes) 18 then TooFew else behind_type bytes 16)
    else behind_type bytes 12

abbrev pub carried : ℕ → List ℕ → Carried
carried link bytes = if link == 101 then plain bytes else if link == 1 then ethernet bytes else Other

-- an answer, seen as what it says the bytes carry
abbrev pub said : Frame → Carried
said (frame.V4 packet) = Packet4 packet.now
said (frame.V6 packet) = Packet6 packet.now
said frame.Short = TooFew
said frame.Kind = Other
