-- The keys of packets: what a binding must own beside a packet's address (RFC 7596, sections 6.2 and 8.1). Which protocols
-- have ports, and what stands for the port where a packet names none, is this router's own choice.
use Rattle.std.specs.Prelude.{ℕ, ◌==◌, nat_lt, Bool, not, ◌||◌, if◌then◌else◌, List, length, slice_index, Option, Some, None, Result, Ok, Err}
use Rattle.aftr_base.specs.Numbers.{big_endian, span}
use Rattle.binding_rules.specs.declared.binding.Want.{Want}
use Rattle.binding_rules.specs.declared.binding.Want.TheVariants as want
use Rattle.icmp_codec.specs.Message4.{Message4, icmp4_of, is_echo}
use Rattle.icmp_codec.specs.Quoted.{EmbeddedPacket}
use Rattle.icmp_codec.specs.declared.message4.IcmpBad.{IcmpBad}
use Rattle.ip_codec.specs.Packet4.{Packet4, is_fragment}
use Rattle.port_locate.specs.declared.keys.Key.{Key}
use Rattle.port_locate.specs.declared.keys.Key.TheVariants as key
use Rattle.port_locate.specs.declared.keys.Keys.{Keys}
use Rattle.port_locate.specs.declared.keys.Keys.TheVariants as keys

-- The protocols whose packets begin with a source port and a destination port of 16 bits: TCP (RFC 9293), UDP (RFC 768),
-- DCCP (RFC 4340), SCTP (RFC 9260) and UDP-Lite (RFC 3828).
abbrev pub has_ports : ℕ → Bool
has_ports protocol = (protocol == 6) || (protocol == 17) || (protocol == 33) || (protocol == 132) || (protocol == 136)

-- Where the two ports stand in a payload. All of both must be there, whichever is asked for (ours).
abbrev pub source_at : ℕ
source_at = 0

abbrev pub destination_at : ℕ
destination_at = 2

-- the port at one of the two places of a payload
abbrev pub port_want : List ℕ → ℕ → Option Want
port_want payload at = if nat_lt (length payload) 4 then None else Some (want.Port (big_endian (span payload at 2)))

-- of a packet that is no ICMP message: its port, or the whole address where its protocol has none (ours)
abbrev pub plain_want : ℕ → List ℕ → ℕ → Option Want
plain_want protocol payload at = if has_ports protocol then port_want payload at else Some want.Whole

-- the identifier of a quoted echo or echo reply, which takes the place of both ports (RFC 5508, section 3); other quoted
-- ICMP messages have none
abbrev pub identifier_want : List ℕ → Option Want
identifier_want payload =
    if nat_lt (length payload) 8 || not (is_echo (slice_index payload 0)) then None
    else Some (want.Port (big_endian (span payload 4 2)))

-- of a packet that an ICMP message quotes; a later fragment names no port
abbrev pub quoted_want : EmbeddedPacket → ℕ → Option Want
quoted_want quoted at =
    if not (quoted.offset == 0) then None
    else if quoted.protocol == 1 then identifier_want quoted.payload
    else plain_want quoted.protocol quoted.payload at

abbrev pub key_of : Option Want → Key
key_of (Some want) = key.At want
key_of None = key.NoPort

-- what an ICMP message asks for: one that quotes a packet by that packet, an echo or its reply by its identifier (RFC 7596,
-- section 8.1)
abbrev pub message_want : Option EmbeddedPacket → ℕ → ℕ → Option Want
message_want (Some quoted) id at = quoted_want quoted at
message_want None id at = Some (want.Port id)

abbrev pub icmp_key : Result Message4 IcmpBad → ℕ → Key
icmp_key (Ok message) at = key_of (message_want message.embedded message.id at)
icmp_key (Err refusal) at = key.IcmpBad

-- The key by the port at a place, and by the port at another place where the packet is quoted. A fragment names no port.
abbrev pub key_at : ℕ → ℕ → Packet4 → Key
key_at at quoted_at p =
    if is_fragment p then key.NoPort
    else if p.protocol == 1 then icmp_key (icmp4_of p.payload) quoted_at
    else key_of (plain_want p.protocol p.payload at)

-- From a subscriber: the source port. What the subscriber's ICMP errors quote came to it, so there its port is the
-- destination port (ours, the mirror of the next).
abbrev pub upstream_key : Packet4 → Key
upstream_key = key_at source_at destination_at

-- To a subscriber: the destination port. What ICMP errors to the subscriber quote came from it, so there its port is the
-- source port (RFC 7596, section 8.1).
abbrev pub downstream_key : Packet4 → Key
downstream_key = key_at destination_at source_at

-- what a packet asks for at its source, of both keys together
abbrev pub source_key : Keys → Key
source_key (keys.At wants) = key.At wants.source
source_key keys.NoPort = key.NoPort
source_key keys.IcmpBad = key.IcmpBad

-- the same at its destination
abbrev pub destination_key : Keys → Key
destination_key (keys.At wants) = key.At wants.destination
destination_key keys.NoPort = key.NoPort
destination_key keys.IcmpBad = key.IcmpBad
