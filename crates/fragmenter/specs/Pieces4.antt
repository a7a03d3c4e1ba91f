-- IPv4 packets cut into fragments (RFC 791, section 3.2).
use Rattle.std.specs.Prelude.{◌≡◌, ℕ, ◌+◌, ◌-◌, ◌*◌, ◌/◌, ◌<◌, ◌≤◌, ◌==◌, nat_lt, Bool, false, if◌then◌else◌, List, [], ◌∷◌, ◌++◌, length, drop}
use Rattle.ip_codec.specs.declared.packet4.Head4.{Head4}
use Rattle.ip_codec.specs.Packet4.{Packet4, header4, packet_len}
use Rattle.fragmenter.specs.Cutting.{Room, AreCut, pieces_of}
use Rattle.fragmenter.specs.Kept.{copied_of}

-- the options of the piece that begins at a place of the payload: the first has all, and later ones those that are copied
abbrev pub options_at : Packet4 → ℕ → List ℕ
options_at packet before = if before == 0 then drop 20 packet.header else copied_of (drop 20 packet.header)

-- how many bytes a piece's own header leaves
abbrev pub room_beside : ℕ → ℕ → Room
room_beside mtu options_len = record { last = mtu - (20 + options_len); middle = (mtu - (20 + options_len)) / 8 * 8 }

abbrev pub room4 : Packet4 → ℕ → ℕ → Room
room4 packet mtu before = room_beside mtu (length (options_at packet before))

-- the fields of a piece: those of the packet, without DF, with MF where more follow, and the offset in units of 8 bytes
abbrev pub piece_head : Packet4 → ℕ → Bool → Head4
piece_head packet before more = record {
  tos = packet.tos;
  id = packet.id;
  reserved = packet.reserved;
  df = false;
  mf = more;
  offset = before / 8;
  ttl = packet.ttl;
  protocol = packet.protocol;
  src = record { 0 = packet.src };
  dst = record { 0 = packet.dst };
}

-- the piece that carries a part of the packet's payload
abbrev pub piece4 : Packet4 → ℕ → Bool → List ℕ → List ℕ
piece4 packet before more part = header4 (piece_head packet before more) (options_at packet before) (length part) ++ part

-- what a packet becomes on a link: itself where it fits, and else pieces that carry its payload
pub record Pieces4 (packet : Packet4) (mtu : ℕ) (list : List (List ℕ)) : Type 0 where
  pub fits : packet_len packet ≤ mtu → list ≡ (packet.header ++ packet.payload) ∷ []
  pub cut : mtu < packet_len packet → AreCut (room4 packet mtu) (piece4 packet) packet.payload list

-- the pieces from a place of the payload on
abbrev pub fragments4 : Packet4 → ℕ → ℕ → List (List ℕ)
fragments4 packet mtu before = pieces_of (room4 packet mtu) (piece4 packet) before (drop before packet.payload)

-- the only such list
abbrev pub pieces4 : Packet4 → ℕ → List (List ℕ)
pieces4 packet mtu = if nat_lt mtu (packet_len packet) then fragments4 packet mtu 0 else (packet.header ++ packet.payload) ∷ []
