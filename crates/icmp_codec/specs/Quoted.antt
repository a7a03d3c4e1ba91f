-- IPv4 packets as ICMP errors quote them (RFC 792).
use Rattle.std.specs.Prelude.{ℕ, ◌/◌, ◌%◌, ◌==◌, nat_lt, Bool, not, ◌||◌, if◌then◌else◌, List, length, take, drop, slice_index, Option, Some, None}
use Rattle.aftr_base.specs.Numbers.{big_endian, span}
use Rattle.aftr_base.specs.Sums.{checksum}
use Rattle.ip_codec.specs.Packet4.{header_len_of, word}
use Rattle.icmp_codec.specs.declared.quoted.Embedded.{Embedded}

-- fields of the quoted header, and what is quoted behind it
pub record EmbeddedPacket : Type 0 where
  pub protocol : ℕ
  pub offset : ℕ
  pub src : ℕ
  pub dst : ℕ
  pub payload : List ℕ

-- The bytes do not begin with an IPv4 header: there are fewer than 20, another version, a length that no header has or
-- that is not there, or a wrong sum (RFC 791, section 3.1; RFC 5508, requirement 3). A quote may be cut, so the total
-- length of the packet is not looked at.
abbrev pub lacks_header : List ℕ → Bool
lacks_header bytes =
    nat_lt (length bytes) 20
    || not (slice_index bytes 0 / 16 == 4)
    || nat_lt (header_len_of bytes) 20
    || nat_lt (length bytes) (header_len_of bytes)
    || not (checksum (take (header_len_of bytes) bytes) == 0)

abbrev pub embedded_fields : List ℕ → EmbeddedPacket
embedded_fields bytes = record {
  protocol = slice_index bytes 9;
  offset = word bytes 6 % 8192;
  src = big_endian (span bytes 12 4);
  dst = big_endian (span bytes 16 4);
  payload = drop (header_len_of bytes) bytes;
}

-- the packet that the bytes quote
abbrev pub embedded_of : List ℕ → Option EmbeddedPacket
embedded_of bytes = if lacks_header bytes then None else Some (embedded_fields bytes)

abbrev pub embedded_packet : Embedded → EmbeddedPacket
embedded_packet view = record {
  protocol = view.protocol;
  offset = view.offset;
  src = view.src.0;
  dst = view.dst.0;
  payload = view.payload.now;
}

abbrev pub quoted : Option Embedded → Option EmbeddedPacket
quoted (Some view) = Some (embedded_packet view)
quoted None = None
