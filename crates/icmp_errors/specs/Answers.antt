-- Which packets get an ICMP error (RFC 1122, section 3.2.2; RFC 1812, section 4.3.2.7; RFC 4443, section 2.4).
use Rattle.std.specs.Prelude.{ℕ, ◌/◌, ◌^◌, ◌==◌, nat_lt, Bool, not, ◌&&◌, List, [], ◌∷◌, length, slice_index}
use Rattle.std.specs.List.{list_any}
use Rattle.icmp_codec.specs.Message4.{is_echo}
use Rattle.icmp_codec.specs.Quoted.{EmbeddedPacket}
use Rattle.ip_codec.specs.Packet4.{Packet4}

-- the fields of a packet that decide
abbrev pub about : Packet4 → EmbeddedPacket
about p = record {
  protocol = p.protocol;
  offset = p.offset;
  src = p.src;
  dst = p.dst;
  payload = p.payload;
}

-- the first byte and the first four bits of an IPv4 address
abbrev pub first_byte : ℕ → ℕ
first_byte address = address / 16777216

abbrev pub first_bits : ℕ → ℕ
first_bits address = address / 268435456

-- the ICMP message is an echo or an echo reply
abbrev pub holds_echo : List ℕ → Bool
holds_echo message = nat_lt 0 (length message) && is_echo (slice_index message 0)

-- the kinds of IPv4 packet about which no error is sent
abbrev pub unanswered : EmbeddedPacket → List Bool
unanswered p =
    -- a later fragment: the first one speaks for the datagram
    not (p.offset == 0)
    -- an ICMP message that is no echo: it may be an error itself, and errors about errors would go to and fro. That other
    -- messages than errors are left out too is ours.
    ∷ ((p.protocol == 1) && not (holds_echo p.payload))
    -- sent to a group, 224.0.0.0/4: each of its members would be answered for
    ∷ (first_bits p.dst == 14)
    -- a broadcast, 255.255.255.255
    ∷ (p.dst == 4294967295)
    -- from no single host, whom the answer would not reach: this network, 0.0.0.0/8
    ∷ (first_byte p.src == 0)
    -- the sender's own loopback, 127.0.0.0/8
    ∷ (first_byte p.src == 127)
    -- a group, 224.0.0.0/4
    ∷ (first_bits p.src == 14)
    -- reserved addresses and the broadcast, 240.0.0.0/4
    ∷ (first_bits p.src == 15)
    ∷ []

-- an ICMP error may be sent about it: it is of no such kind
abbrev pub gets_answer : EmbeddedPacket → Bool
gets_answer p = not (list_any (λ kind. kind) (unanswered p))

-- the IPv6 sources to which no error is sent: they name no single node (RFC 4443, section 2.4 (e))
abbrev pub unanswered6 : ℕ → List Bool
unanswered6 src =
    -- the unspecified address, ::
    (src == 0)
    -- a group, ff00::/8
    ∷ (src / 2 ^ 120 == 255)
    ∷ []

-- an ICMPv6 error may be sent to it
abbrev pub gets_answer6 : ℕ → Bool
gets_answer6 src = not (list_any (λ kind. kind) (unanswered6 src))
