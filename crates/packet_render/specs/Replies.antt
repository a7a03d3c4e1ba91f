-- What a reply says, and to whom: an error goes to the source of the packet that it is about, and quotes the first bytes of that packet.
use Rattle.std.specs.Prelude.{◌≡◌, ℕ, ◌<◌, ◌^◌, List, [], ◌∷◌, drop, length, slice_index, take, Ok}
use Rattle.std.specs.Int.{w32, w128, to_be_bytes}
use Rattle.aftr_base.specs.Numbers.{span, word_bytes}
use Rattle.aftr_base.specs.declared.numbers.V4.{V4}
use Rattle.aftr_base.specs.declared.numbers.V6.{V6}
use Rattle.icmp_codec.specs.Message4.{Message4, icmp4_of}
use Rattle.icmp_codec.specs.Message6.{Message6, icmp6_of}
use Rattle.icmp_relay.specs.Quotes.{TunnelQuote, quote_of}
use Rattle.ip_codec.specs.Packet4.{Packet4, ip4_of, whole4}
use Rattle.ip_codec.specs.declared.items.Item.{Item}
use Rattle.ip_codec.specs.declared.items.Item.TheVariants as item
use Rattle.ip_codec.specs.declared.items.Outer.{Outer}
use Rattle.softwire_encap.specs.Places.{IsPacket6, IsTunnelPacket}
use Rattle.verdict_core.specs.Fitting.{HasPacket}
use Rattle.verdict_core.specs.declared.verdicts.Path.{Path}
use Rattle.verdict_core.specs.declared.verdicts.Path.TheVariants as path
use Rattle.verdict_core.specs.declared.verdicts.Reply.{Reply}
use Rattle.verdict_core.specs.declared.verdicts.Reply.TheVariants as reply

-- the error goes as it is, or in a tunnel packet
abbrev pub GoesBy : Path → List ℕ → List ℕ → Type 0
GoesBy path.Plain error bytes = bytes ≡ error
GoesBy (path.Tunnel limit from to) error bytes = IsTunnelPacket from to limit error bytes

-- One packet is sent. Its receiver reads an IPv4 packet from the router to that address, whose header sums up, and in it an ICMP message of
-- this type, code and second word, which sums up too and quotes the first bytes of that packet: as many as leave the error 576 bytes
-- (RFC 792; RFC 1812, section 4.3.2.3).
pub record TellsOne (own : V4) (to kind code word : ℕ) (about : List ℕ) (way : Path) (list : List (List ℕ)) : Type 0 where
  pub bytes : List ℕ
  pub error : List ℕ
  pub only : list ≡ bytes ∷ []
  pub by : GoesBy way error bytes
  pub found : Packet4
  pub read : ip4_of error ≡ Ok found
  pub source : found.src ≡ own.0
  pub destination : found.dst ≡ to
  pub protocol : found.protocol ≡ 1
  pub message : Message4
  pub told : icmp4_of found.payload ≡ Ok message
  pub its_type : message.kind ≡ kind
  pub its_code : message.code ≡ code
  pub its_word : message.word ≡ word
  pub quotes : message.rest ≡ take 548 about

-- an error about the item's own packet, to its source
abbrev pub TellsItsSource : Item → V4 → ℕ → ℕ → ℕ → Path → List (List ℕ) → Type 0
TellsItsSource i own kind code word way list = (p : Packet4) → HasPacket i p → TellsOne own p.src kind code word (whole4 p) way list

-- the tunnel packet as it came, but for extension headers, which are not kept (ours)
pub record IsAsItCame (outer : Outer) (inner came : List ℕ) : Type 0 where
  pub first_word : span came 0 4 ≡ to_be_bytes w32 outer.word
  pub payload_length : span came 4 2 ≡ word_bytes (length inner)
  pub next_header : slice_index came 6 ≡ 4
  pub hop_limit : slice_index came 7 ≡ outer.hop
  pub source : span came 8 16 ≡ to_be_bytes w128 outer.src.0
  pub destination : span came 24 16 ≡ to_be_bytes w128 outer.dst.0
  pub behind : drop 40 came ≡ inner

-- One packet is sent: an ICMPv6 message to that end of a tunnel, which sums up, says that the source address failed the policy (type 1,
-- code 5), and quotes as much of the tunnel packet as leaves the error 1,280 bytes (RFC 4443, sections 2.4 (c) and 3.1; RFC 7596, section 6.2).
pub record TellsPolicyTo (from to : V6) (limit : ℕ) (outer : Outer) (inner : List ℕ) (list : List (List ℕ)) : Type 0 where
  pub bytes : List ℕ
  pub only : list ≡ bytes ∷ []
  pub error : List ℕ
  pub stands : IsPacket6 from to limit 58 0 error bytes
  pub message : Message6
  pub told : icmp6_of from.0 to.0 error ≡ Ok message
  pub its_type : message.kind ≡ 1
  pub its_code : message.code ≡ 5
  pub came : List ℕ
  pub about : IsAsItCame outer inner came
  pub quotes : message.rest ≡ take 1232 came

abbrev pub TellsEnd : Item → V6 → V6 → ℕ → List (List ℕ) → Type 0
TellsEnd (item.Up outer inner) from to limit list = (p : Packet4) → HasPacket (item.Up outer inner) p → TellsPolicyTo from to limit outer (whole4 p) list
TellsEnd _ from to limit list = ⊥

-- An error that is passed on goes to the source of the packet in the quoted tunnel packet, and quotes what the message quotes of it
-- (RFC 2473, section 8).
abbrev pub TellsQuotedSource : Item → V4 → ℕ → ℕ → Path → List (List ℕ) → Type 0
TellsQuotedSource (item.Icmp6 src dst bytes) own code mtu way list =
    (m : Message6) (q : TunnelQuote) → icmp6_of src.0 dst.0 bytes ≡ Ok m → quote_of m.rest ≡ Ok q → TellsOne own q.inner.src 3 code mtu q.packet way list
TellsQuotedSource _ own code mtu way list = ⊥

-- what is written for a reply: nothing if it is silent
abbrev pub SaysWhy : Item → Reply → List (List ℕ) → Type 0
SaysWhy i reply.Silent list = list ≡ []
SaysWhy i (reply.Unreachable own way) list = TellsItsSource i own 3 1 0 way list
SaysWhy i (reply.TooBig own mtu way) list = TellsItsSource i own 3 4 mtu way list
SaysWhy i (reply.Exceeded own way) list = TellsItsSource i own 11 0 0 way list
SaysWhy i (reply.Policy from to limit) list = TellsEnd i from to limit list
SaysWhy i (reply.Relay own code mtu way) list = TellsQuotedSource i own code mtu way list

-- the router's IPv4 address has 32 bits, and the size that an error tells 16
abbrev pub IsInRange : Reply → Type 0
IsInRange reply.Silent = Unit {0}
IsInRange (reply.Unreachable own way) = own.0 < 2 ^ 32
IsInRange (reply.TooBig own mtu way) = (own.0 < 2 ^ 32) × (mtu < 2 ^ 16)
IsInRange (reply.Exceeded own way) = own.0 < 2 ^ 32
IsInRange (reply.Policy from to limit) = Unit {0}
IsInRange (reply.Relay own code mtu way) = (own.0 < 2 ^ 32) × (mtu < 2 ^ 16)
