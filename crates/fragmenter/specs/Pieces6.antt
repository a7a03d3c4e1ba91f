-- Tunnel packets cut into fragments (RFC 8200, section 4.5).
use Rattle.std.specs.Prelude.{◌≡◌, ℕ, ◌+◌, ◌-◌, ◌*◌, ◌/◌, ◌<◌, ◌≤◌, nat_lt, Bool, if◌then◌else◌, List, [], ◌∷◌, ◌++◌, length, drop}
use Rattle.std.specs.Int.{w32, to_be_bytes}
use Rattle.aftr_base.specs.Numbers.{word_bytes}
use Rattle.ip_codec.specs.declared.packet6.Head6.{Head6}
use Rattle.ip_codec.specs.Packet4.{flag_worth}
use Rattle.ip_codec.specs.Packet6.{Packet6, bytes6}
use Rattle.fragmenter.specs.Cutting.{Room, AreCut, pieces_of}

-- what is left of the link's packet behind the IPv6 header and the Fragment header, in whole units of 8 bytes
abbrev pub room6 : ℕ → ℕ → Room
room6 mtu before = record { last = (mtu - 48) / 8 * 8; middle = (mtu - 48) / 8 * 8 }

-- the header of a fragment: that of the packet, with a Fragment header (44) behind it
abbrev pub fragment_head : Packet6 → Head6
fragment_head packet = record {
  word = packet.word;
  next = 44;
  hop = packet.hop;
  src = record { 0 = packet.src };
  dst = record { 0 = packet.dst };
}

-- the Fragment header: the number of what the datagram carries, the offset in units of 8 bytes before two zero bits and M, and
-- the identification
abbrev pub fragment_bytes : ℕ → ℕ → Bool → ℕ → List ℕ
fragment_bytes next before more id =
    next ∷ 0 ∷ [] ++ word_bytes (before / 8 * 8 + flag_worth more 1) ++ to_be_bytes w32 id

-- the fragment that carries a part of the packet's body
abbrev pub piece6 : Packet6 → ℕ → ℕ → Bool → List ℕ → List ℕ
piece6 packet id before more part = bytes6 (fragment_head packet) (fragment_bytes packet.next before more id ++ part)

-- a packet with more bytes behind its body
abbrev pub with_rest : Packet6 → List ℕ → Packet6
with_rest packet rest = record packet { body = packet.body ++ rest }

-- what a packet becomes on a link: itself where it fits, and else fragments that carry its body
pub record Pieces6 (bytes : List ℕ) (packet : Packet6) (mtu id : ℕ) (list : List (List ℕ)) : Type 0 where
  pub fits : length bytes ≤ mtu → list ≡ bytes ∷ []
  pub cut : mtu < length bytes → AreCut (room6 mtu) (piece6 packet id) packet.body list

-- the fragments from a place of the body on
abbrev pub fragments6 : Packet6 → ℕ → ℕ → ℕ → List (List ℕ)
fragments6 packet mtu id before = pieces_of (room6 mtu) (piece6 packet id) before (drop before packet.body)

-- the only such list
abbrev pub pieces6 : List ℕ → Packet6 → ℕ → ℕ → List (List ℕ)
pieces6 bytes packet mtu id = if nat_lt mtu (length bytes) then fragments6 packet mtu id 0 else bytes ∷ []
