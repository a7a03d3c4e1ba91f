-- Which rule a drop names: of the rules that could keep the packet, the first one whose condition holds. The conditions here are facts about
-- the packet and the table, and no list of tests is part of them. The order is that of docs/FORMATS.md, 'The order of the tests' (ours).
use Rattle.std.specs.Prelude.{◌≡◌, ◌<◌, ◌⊎◌, ◌↔◌, false, List, [], ◌∷◌, Ok}
use Rattle.binding_rules.specs.Tables.{BindingTable}
use Rattle.ip_codec.specs.Packet4.{Packet4, ip4_of}
use Rattle.ip_codec.specs.declared.items.Item.{Item}
use Rattle.ip_codec.specs.declared.items.Item.TheVariants as item
use Rattle.ip_codec.specs.declared.rules.Rule.{Rule}
use Rattle.ip_codec.specs.declared.rules.Rule.TheVariants as rule
use Rattle.port_locate.specs.Keys.{downstream_key}
use Rattle.port_locate.specs.declared.keys.Key.TheVariants as key
use Rattle.verdict_core.specs.Owners.{FitsNetwork, FitsTunnel, HasReceiver, IsSubscriberAddress}
use Rattle.verdict_core.specs.declared.verdicts.Reply.{Reply}
use Rattle.verdict_core.specs.declared.verdicts.Verdict.{Verdict}
use Rattle.verdict_core.specs.declared.verdicts.Verdict.TheVariants as verdict

-- of these rules in their order, it is the first one that holds
abbrev pub IsFirst : (Rule → Type 0) → List Rule → Rule → Type 0
IsFirst Holds [] why = ⊥
IsFirst Holds (r ∷ rs) why = ((why ≡ r) × Holds r) ⊎ ((Holds r → ⊥) × IsFirst Holds rs why)

-- the packet is dropped by this rule, whatever its sender is told
abbrev pub IsDroppedBy : Verdict → Rule → Type 0
IsDroppedBy v why = (told : Reply) × (v ≡ verdict.Drop why told)

-- What keeps a packet from the IPv4 network: it is for the router itself; it is ICMP, and none is let in (RFC 7596, section 8.1); its ICMP
-- message is damaged (RFC 5508, REQ-3); it names no port; nobody owns its destination (RFC 7596, section 6.2); its time to live is used up
-- (RFC 1812, section 5.3.1); it does not fit the tunnel and must not be cut (RFC 2473, section 7.2).
abbrev pub KeepsDown : BindingTable → Packet4 → Rule → Type 0
KeepsDown t p rule.ToSelf = p.dst ≡ t.softwire.own.0
KeepsDown t p rule.IcmpOff = (p.protocol ≡ 1) × (t.softwire.icmp_in ≡ false)
KeepsDown t p rule.IcmpBad = downstream_key p ≡ key.IcmpBad
KeepsDown t p rule.NoPort = downstream_key p ≡ key.NoPort
KeepsDown t p rule.NoBinding = HasReceiver t p → ⊥
KeepsDown t p rule.Ttl = p.ttl < 2
KeepsDown t p rule.TooBig = FitsTunnel t p → ⊥
KeepsDown t p _ = ⊥

abbrev pub down_order : List Rule
down_order = rule.ToSelf ∷ rule.IcmpOff ∷ rule.IcmpBad ∷ rule.NoPort ∷ rule.NoBinding ∷ rule.Ttl ∷ rule.TooBig ∷ []

-- What keeps a subscriber's packet although its sender may send. If its destination is an address of the table: hairpins are off, nobody
-- owns the destination, or the packet does not fit the tunnel. If it is not: the packet is for the router itself, or does not fit the
-- network. The time to live comes first.
abbrev pub KeepsUp : BindingTable → Packet4 → Rule → Type 0
KeepsUp t p rule.Ttl = p.ttl < 2
KeepsUp t p rule.HairpinOff = IsSubscriberAddress t p.dst × (t.softwire.hairpin ≡ false)
KeepsUp t p rule.HairpinNoBinding = IsSubscriberAddress t p.dst × (HasReceiver t p → ⊥)
KeepsUp t p rule.ToSelf = p.dst ≡ t.softwire.own.0
KeepsUp t p rule.TooBig = (IsSubscriberAddress t p.dst × (FitsTunnel t p → ⊥)) ⊎ ((IsSubscriberAddress t p.dst → ⊥) × (FitsNetwork t p → ⊥))
KeepsUp t p _ = ⊥

abbrev pub up_order : List Rule
up_order = rule.Ttl ∷ rule.HairpinOff ∷ rule.HairpinNoBinding ∷ rule.ToSelf ∷ rule.TooBig ∷ []

-- a packet from the IPv4 network that can be read is dropped by exactly the first rule that keeps it
abbrev pub NamesDown : BindingTable → Item → Verdict → Type 0
NamesDown t (item.Down bytes) v = (p : Packet4) → ip4_of bytes ≡ Ok p → (why : Rule) → IsDroppedBy v why ↔ IsFirst (KeepsDown t p) down_order why
NamesDown t _ v = Unit {0}
