-- What is sent is what came: relations between the packet that came and the bytes that are written.
use Rattle.std.specs.Prelude.{◌≡◌, ℕ, ◌+◌, ◌*◌, ◌%◌, ◌<◌, ◌≤◌, ◌^◌, Bool, false, List, [], ◌∷◌, ◌++◌, drop, length, slice_index, Ok}
use Rattle.std.specs.List.{AllByRecursion}
use Rattle.aftr_base.specs.Numbers.{big_endian, span, word_bytes}
use Rattle.aftr_base.specs.declared.numbers.V6.{V6}
use Rattle.fragmenter.specs.Cutting.{are_there}
use Rattle.fragmenter.specs.Pieces4.{options_at}
use Rattle.ip_codec.specs.Packet4.{Packet4, flag_worth, ip4_of, packet_len}
use Rattle.ip_codec.specs.declared.items.Item.{Item}
use Rattle.ip_codec.specs.declared.items.Item.TheVariants as item
use Rattle.softwire_encap.specs.Places.{IsTunnelPacket}
use Rattle.verdict_core.specs.Fitting.{HasPacket}
use Rattle.verdict_core.specs.declared.verdicts.Verdict.{Verdict}
use Rattle.verdict_core.specs.declared.verdicts.Verdict.TheVariants as verdict

-- every number is a byte
abbrev pub AreBytes : List ℕ → Type 0
AreBytes bytes = AllByRecursion (λ byte. byte ≤ 255) bytes

-- the bytes that an item carries are bytes
abbrev pub CarriesBytes : Item → Type 0
CarriesBytes (item.Down packet) = AreBytes packet
CarriesBytes (item.Up outer inner) = AreBytes inner
CarriesBytes (item.Icmp6 src dst message) = AreBytes message
CarriesBytes _ = Unit {0}

-- The packet after one hop: its time to live is one lower, and all else is as it was (RFC 791, section 3.2; RFC 1812, section 5.3.1).
pub record IsOneHopOn (p q : Packet4) : Type 0 where
  pub ttl : q.ttl + 1 ≡ p.ttl
  pub tos : q.tos ≡ p.tos
  pub id : q.id ≡ p.id
  pub reserved : q.reserved ≡ p.reserved
  pub df : q.df ≡ p.df
  pub mf : q.mf ≡ p.mf
  pub offset : q.offset ≡ p.offset
  pub protocol : q.protocol ≡ p.protocol
  pub src : q.src ≡ p.src
  pub dst : q.dst ≡ p.dst
  pub options : drop 20 q.header ≡ drop 20 p.header
  pub payload : q.payload ≡ p.payload

-- The receiver reads the bytes as that packet after one hop. What can be read has a right header checksum.
pub record SpellsNext (p : Packet4) (bytes : List ℕ) : Type 0 where
  pub next : Packet4
  pub read : ip4_of bytes ≡ Ok next
  pub same : IsOneHopOn p next

-- ---- to the IPv4 network
-- in one packet
pub record IsSentWhole (p : Packet4) (list : List (List ℕ)) : Type 0 where
  pub bytes : List ℕ
  pub only : list ≡ bytes ∷ []
  pub spells : SpellsNext p bytes

-- A piece that begins at a place of the payload. It fits the network and has the fields of the whole packet, but for these: DF is clear,
-- the offset says the place in units of 8 bytes, and MF says whether others follow. The first piece has all options, and the later ones
-- those that are copied (RFC 791, section 3.2).
pub record IsPiece4 (whole : Packet4) (mtu before : ℕ) (more : Bool) (piece : Packet4) : Type 0 where
  pub fits : packet_len piece ≤ mtu
  pub offset : 8 * piece.offset ≡ before
  pub mf : piece.mf ≡ more
  pub df : piece.df ≡ false
  pub tos : piece.tos ≡ whole.tos
  pub id : piece.id ≡ whole.id
  pub reserved : piece.reserved ≡ whole.reserved
  pub ttl : piece.ttl ≡ whole.ttl
  pub protocol : piece.protocol ≡ whole.protocol
  pub src : piece.src ≡ whole.src
  pub dst : piece.dst ≡ whole.dst
  pub options : drop 20 piece.header ≡ options_at whole before

-- The packets are the pieces of what is left of a payload, from a place on. Put together they are that payload, byte for byte.
abbrev pub ArePieces4 : Packet4 → ℕ → ℕ → List ℕ → List (List ℕ) → Type 0
ArePieces4 whole mtu before left [] = left ≡ []
ArePieces4 whole mtu before left (bytes ∷ rest) =
    (piece : Packet4) × ((ip4_of bytes ≡ Ok piece) × (IsPiece4 whole mtu before (are_there rest) piece
    × ((after : List ℕ) × ((left ≡ piece.payload ++ after) × ArePieces4 whole mtu (before + length piece.payload) after rest))))

-- in pieces, which put together are the packet after one hop
pub record IsSentInPieces (p : Packet4) (mtu : ℕ) (list : List (List ℕ)) : Type 0 where
  pub next : Packet4
  pub same : IsOneHopOn p next
  pub pieces : ArePieces4 next mtu 0 next.payload list

-- in one packet if it fits, and else in pieces. That the pieces can be read back holds of bytes, and not of any other numbers.
pub record GoesOut (i : Item) (mtu : ℕ) (list : List (List ℕ)) : Type 0 where
  pub packet : Packet4
  pub carried : HasPacket i packet
  pub whole : packet_len packet ≤ mtu → IsSentWhole packet list
  pub cut : CarriesBytes i → mtu < packet_len packet → IsSentInPieces packet mtu list

-- ---- into a tunnel
-- the bytes are a tunnel packet, and in it is the packet after one hop
pub record Tunnels (from to : V6) (limit : ℕ) (p : Packet4) (bytes : List ℕ) : Type 0 where
  pub inner : List ℕ
  pub tunnel : IsTunnelPacket from to limit inner bytes
  pub spells : SpellsNext p inner

-- in one packet
pub record IsTunnelledWhole (from to : V6) (limit : ℕ) (p : Packet4) (list : List (List ℕ)) : Type 0 where
  pub bytes : List ℕ
  pub only : list ≡ bytes ∷ []
  pub tunnels : Tunnels from to limit p bytes

-- A fragment of a tunnel packet, both by the places of their bytes. Its header is that of the packet, but for its own length and next
-- header 44. Behind it stands the Fragment header with the next header of the packet, a zero byte, the place and the flag M, and the
-- identification (RFC 8200, section 4.5).
pub record IsPiece6 (whole : List ℕ) (mtu id before : ℕ) (more : Bool) (piece : List ℕ) : Type 0 where
  pub fits : length piece ≤ mtu
  pub first_word : span piece 0 4 ≡ span whole 0 4
  pub payload_length : span piece 4 2 ≡ word_bytes (length (drop 40 piece))
  pub next_header : slice_index piece 6 ≡ 44
  pub hop_limit : slice_index piece 7 ≡ slice_index whole 7
  pub source : span piece 8 16 ≡ span whole 8 16
  pub destination : span piece 24 16 ≡ span whole 24 16
  pub carries : slice_index piece 40 ≡ slice_index whole 6
  pub unused : slice_index piece 41 ≡ 0
  pub place : big_endian (span piece 42 2) ≡ before + flag_worth more 1
  pub identification : big_endian (span piece 44 4) ≡ id % 256 ^ 4

-- The packets are the fragments of what is left behind the header of a tunnel packet, from a place on. Put together they are that, byte
-- for byte.
abbrev pub ArePieces6 : List ℕ → ℕ → ℕ → ℕ → List ℕ → List (List ℕ) → Type 0
ArePieces6 whole mtu id before left [] = left ≡ []
ArePieces6 whole mtu id before left (piece ∷ rest) =
    IsPiece6 whole mtu id before (are_there rest) piece
    × ((after : List ℕ) × ((left ≡ drop 48 piece ++ after) × ArePieces6 whole mtu id (before + length (drop 48 piece)) after rest))

-- in fragments, which put together are the tunnel packet
pub record IsTunnelledInPieces (from to : V6) (limit : ℕ) (p : Packet4) (mtu number : ℕ) (list : List (List ℕ)) : Type 0 where
  pub bytes : List ℕ
  pub tunnels : Tunnels from to limit p bytes
  pub pieces : ArePieces6 bytes mtu number 0 tunnels.inner list

-- in one packet if it fits behind the 40 bytes of the tunnel's header, and else in fragments
pub record GoesIn (i : Item) (from to : V6) (limit mtu number : ℕ) (list : List (List ℕ)) : Type 0 where
  pub packet : Packet4
  pub carried : HasPacket i packet
  pub whole : 40 + packet_len packet ≤ mtu → IsTunnelledWhole from to limit packet list
  pub cut : mtu < 40 + packet_len packet → IsTunnelledInPieces from to limit packet mtu number list

-- What is written for a packet that goes on. For what is held nothing is written; what is written for a drop is said by its reply.
abbrev pub SendsWhatCame : Item → Verdict → ℕ → List (List ℕ) → Type 0
SendsWhatCame i (verdict.Outward mtu) number list = GoesOut i mtu list
SendsWhatCame i (verdict.Inward from to limit mtu back) number list = GoesIn i from to limit mtu number list
SendsWhatCame i (verdict.Drop why told) number list = Unit {0}
SendsWhatCame i verdict.Held number list = list ≡ []

-- the numbers of a packet that bytes can spell
pub record IsOfBytes (p : Packet4) : Type 0 where
  pub tos : p.tos ≤ 255
  pub src : p.src < 2 ^ 32
  pub dst : p.dst < 2 ^ 32
  pub most : packet_len p ≤ 65535

-- a packet that is read from bytes has such numbers
abbrev pub BytesAreEnough : Type 0
BytesAreEnough = (bytes : List ℕ) (p : Packet4) → AreBytes bytes → ip4_of bytes ≡ Ok p → IsOfBytes p
