-- Which verdicts an item can have.
use Rattle.std.specs.Prelude.{◌≡◌, ℕ, ◌-◌, ◌≤◌, ◌⊎◌, true, false, List, Option, Some, None, Ok}
use Rattle.aftr_base.specs.declared.numbers.V6.{V6}
use Rattle.icmp_codec.specs.Message6.{Message6, icmp6_of}
use Rattle.icmp_relay.specs.Quotes.{TunnelQuote, quote_of}
use Rattle.ip_codec.specs.Packet4.{Packet4, ip4_of, is_fragment, packet_len}
use Rattle.ip_codec.specs.declared.items.Item.{Item}
use Rattle.ip_codec.specs.declared.items.Item.TheVariants as item
use Rattle.verdict_core.specs.declared.verdicts.Reply.{Reply}
use Rattle.verdict_core.specs.declared.verdicts.Reply.TheVariants as reply
use Rattle.verdict_core.specs.declared.verdicts.Verdict.{Verdict}
use Rattle.verdict_core.specs.declared.verdicts.Verdict.TheVariants as verdict

-- the bytes of the item's IPv4 packet
abbrev pub ipv4_bytes : Item → Option (List ℕ)
ipv4_bytes (item.Down packet) = Some packet
ipv4_bytes (item.Up outer inner) = Some inner
ipv4_bytes _ = None

-- the item has an IPv4 packet that is read as this one
abbrev pub HasPacket : Item → Packet4 → Type 0
HasPacket i p = (bytes : List ℕ) × (ipv4_bytes i ≡ Some bytes) × (ip4_of bytes ≡ Ok p)

-- the item's packet can be sent on: it is whole, its time to live is not used up, and it has DF clear or fits
pub record IsSendable (i : Item) (room : ℕ) : Type 0 where
  pub packet : Packet4
  pub carried : HasPacket i packet
  pub whole : is_fragment packet ≡ false
  pub alive : 2 ≤ packet.ttl
  pub fits : packet.df ≡ true → packet_len packet ≤ room

abbrev pub IsUp : Item → Type 0
IsUp (item.Up outer inner) = Unit {0}
IsUp _ = ⊥

abbrev pub IsDown : Item → Type 0
IsDown (item.Down packet) = Unit {0}
IsDown _ = ⊥

-- the ICMPv6 message is sound, and quotes a tunnel packet whose inner IPv4 header can be read (RFC 2473, section 8)
pub record QuotesTunnel (from to : V6) (bytes : List ℕ) : Type 0 where
  pub message : Message6
  pub read : icmp6_of from.0 to.0 bytes ≡ Ok message
  pub quote : TunnelQuote
  pub quoted : quote_of message.rest ≡ Ok quote

-- the item is an ICMPv6 message that can be passed on
abbrev pub IsRelayable : Item → Type 0
IsRelayable (item.Icmp6 src dst message) = QuotesTunnel src dst message
IsRelayable _ = ⊥

abbrev pub FitsReply : Item → Reply → Type 0
FitsReply i reply.Silent = Unit {0}
FitsReply i (reply.Policy from to hop) = IsUp i × ((p : Packet4) × HasPacket i p)
FitsReply i (reply.Relay own code mtu path) = IsRelayable i × ((code ≡ 1) ⊎ (code ≡ 4))
FitsReply i _ = (p : Packet4) × HasPacket i p

-- the verdict fits the item
abbrev pub Fits : Item → Verdict → Type 0
Fits i verdict.Held = i ≡ item.Held
Fits i (verdict.Drop why told) = FitsReply i told
Fits i (verdict.Outward mtu) = IsUp i × IsSendable i mtu
Fits i (verdict.Inward from to hop mtu true) = IsUp i × IsSendable i (mtu - 40)
Fits i (verdict.Inward from to hop mtu false) = IsDown i × IsSendable i (mtu - 40)

-- the greatest size that the verdict names is at least what every IPv6 link (RFC 8200, section 5) or every IPv4 host
-- (RFC 791, section 3.1) takes
abbrev pub HasRoom : Verdict → Type 0
HasRoom (verdict.Outward mtu) = 576 ≤ mtu
HasRoom (verdict.Inward from to hop mtu back) = 1280 ≤ mtu
HasRoom _ = Unit {0}

-- the table is asked: the item is not held, and is not dropped already
abbrev pub AsksTable : Item → Type 0
AsksTable item.Held = ⊥
AsksTable (item.Bad why) = ⊥
AsksTable _ = Unit {0}
