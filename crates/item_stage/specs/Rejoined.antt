-- IPv4 datagrams put together.
use Rattle.std.specs.Prelude.{◌≡◌, ℕ, false, List, [], ◌++◌, drop, length, Ok}
use Rattle.ip_codec.specs.Packet4 as four
use Rattle.ip_codec.specs.declared.packet4.Head4.{Head4}

-- the fields of a header whose datagram is whole: no further fragment, offset 0
abbrev pub whole_head : four.Packet4 → Head4
whole_head packet = record {
  tos = packet.tos;
  id = packet.id;
  reserved = packet.reserved;
  df = packet.df;
  mf = false;
  offset = 0;
  ttl = packet.ttl;
  protocol = packet.protocol;
  src = record { 0 = packet.src };
  dst = record { 0 = packet.dst };
}

-- The datagram: the header of its first fragment, options among it, with the total length and the checksum of the whole, and
-- behind it the bytes (RFC 791, section 3.2).
abbrev pub rejoined : List ℕ → List ℕ → List ℕ
rejoined head body = four.header4 (whole_head (four.fields4 head [])) (drop 20 head) (length body) ++ body

-- a header and a payload are an IPv4 packet, all of them
pub record IsPacket (header payload : List ℕ) : Type 0 where
  pub reads : four.ip4_of (header ++ payload) ≡ Ok (four.fields4 header payload)
  pub bounded : four.IsBounded4 (four.fields4 header payload)
