-- What a packet asks the table for, by the bytes at their places (RFC 9293, RFC 768, RFC 4340, RFC 9260, RFC 3828; RFC 792; RFC 7596,
-- section 8.1).
use Rattle.std.specs.Prelude.{◌≡◌, ℕ, ◌≤◌, ◌⊎◌, true, false, length, slice_index, Some, Ok}
use Rattle.aftr_base.specs.Numbers.{big_endian, span}
use Rattle.binding_rules.specs.declared.binding.Want.{Want}
use Rattle.binding_rules.specs.declared.binding.Want.TheVariants as want
use Rattle.icmp_codec.specs.Message4.{Message4, icmp4_of}
use Rattle.icmp_codec.specs.Quoted.{EmbeddedPacket}
use Rattle.ip_codec.specs.Packet4.{Packet4, is_fragment}
use Rattle.port_locate.specs.Keys.{downstream_key, upstream_key}
use Rattle.port_locate.specs.declared.keys.Key.TheVariants as key

-- TCP, UDP, DCCP, SCTP or UDP-Lite: the payload begins with the source port and then the destination port, two bytes each
abbrev pub HasTwoPorts : ℕ → Type 0
HasTwoPorts protocol = (protocol ≡ 6) ⊎ ((protocol ≡ 17) ⊎ ((protocol ≡ 33) ⊎ ((protocol ≡ 132) ⊎ (protocol ≡ 136))))

-- what the packet asks for at its source, and at its destination
pub record Asks (p : Packet4) (source destination : Want) : Type 0 where
  pub upstream : upstream_key p ≡ key.At source
  pub downstream : downstream_key p ≡ key.At destination

-- a packet with ports asks for its source port at its source, and for its destination port at its destination
abbrev pub PortsAreRead : Type 0
PortsAreRead = (p : Packet4) → is_fragment p ≡ false → HasTwoPorts p.protocol → 4 ≤ length p.payload →
    Asks p (want.Port (big_endian (span p.payload 0 2))) (want.Port (big_endian (span p.payload 2 2)))

-- an ICMP echo or echo reply asks for its identifier, which stands behind type, code and checksum (RFC 792)
abbrev pub IdentifiersAreRead : Type 0
IdentifiersAreRead = (p : Packet4) → is_fragment p ≡ false → p.protocol ≡ 1 → 8 ≤ length p.payload →
    (slice_index p.payload 0 ≡ 0) ⊎ (slice_index p.payload 0 ≡ 8) →
    Asks p (want.Port (big_endian (span p.payload 4 2))) (want.Port (big_endian (span p.payload 4 2)))

-- Any other ICMP message asks for a port of the packet that it quotes. That packet went the other way, so the message's source asks for
-- the quoted destination port, and its destination for the quoted source port.
abbrev pub QuotedPortsAreRead : Type 0
QuotedPortsAreRead = (p : Packet4) (message : Message4) (quoted : EmbeddedPacket) → is_fragment p ≡ false → p.protocol ≡ 1 →
    icmp4_of p.payload ≡ Ok message → message.embedded ≡ Some quoted → quoted.offset ≡ 0 → HasTwoPorts quoted.protocol → 4 ≤ length quoted.payload →
    Asks p (want.Port (big_endian (span quoted.payload 2 2))) (want.Port (big_endian (span quoted.payload 0 2)))

-- a packet of another protocol asks for the whole address
abbrev pub OthersAskForAll : Type 0
OthersAskForAll = (p : Packet4) → is_fragment p ≡ false → (p.protocol ≡ 1 → ⊥) → (HasTwoPorts p.protocol → ⊥) → Asks p want.Whole want.Whole

-- a fragment names no port
abbrev pub FragmentsNameNone : Type 0
FragmentsNameNone = (p : Packet4) → is_fragment p ≡ true → (upstream_key p ≡ key.NoPort) × (downstream_key p ≡ key.NoPort)
