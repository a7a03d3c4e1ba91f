-- Who may send, who receives, and whom errors reach: the tunnel's address, the IPv4 address and the port of a subscriber stand
-- in one binding (RFC 7596, section 6.2; RFC 2473, section 8).
use Rattle.std.specs.Prelude.{◌≡◌, ℕ, ◌≤◌, ◌↔◌, Bool, false, true, List, [], ◌∷◌, None, Ok}
use Rattle.aftr_base.specs.declared.numbers.V6.{V6}
use Rattle.binding_rules.specs.Bindings.{bound}
use Rattle.binding_rules.specs.Tables.{BindingTable}
use Rattle.binding_rules.specs.declared.binding.Binding.{Binding}
use Rattle.binding_rules.specs.declared.binding.Want.{Want}
use Rattle.icmp_codec.specs.Message6.{Message6, icmp6_of}
use Rattle.icmp_relay.specs.Quotes.{TunnelQuote, quote_of}
use Rattle.icmp_errors.specs.Answers.{gets_answer}
use Rattle.ip_codec.specs.Packet4.{Packet4, ip4_of}
use Rattle.ip_codec.specs.declared.items.Item.{Item}
use Rattle.ip_codec.specs.declared.items.Item.TheVariants as item
use Rattle.ip_codec.specs.declared.items.Outer.{Outer}
use Rattle.ip_codec.specs.declared.rules.Rule.{Rule}
use Rattle.ip_codec.specs.declared.rules.Rule.TheVariants as rule
use Rattle.port_locate.specs.Keys.{downstream_key, upstream_key}
use Rattle.port_locate.specs.declared.keys.Key.TheVariants as key
use Rattle.verdict_core.specs.Answers.{relayed}
use Rattle.verdict_core.specs.Fitting.{HasPacket}
use Rattle.verdict_core.specs.Named.{IsFirst, KeepsUp, up_order}
pub use Rattle.verdict_core.specs.Owners.{FitsNetwork, FitsTunnel, HasReceiver, IsSubscriberAddress}
use Rattle.verdict_core.specs.Verdicts.{is_bound_address, is_tunnel_error, owner_end, quoted_destination, quoted_source}
use Rattle.verdict_core.specs.declared.verdicts.Path.{Path}
use Rattle.verdict_core.specs.declared.verdicts.Path.TheVariants as path
use Rattle.verdict_core.specs.declared.verdicts.Reply.{Reply}
use Rattle.verdict_core.specs.declared.verdicts.Reply.TheVariants as reply
use Rattle.verdict_core.specs.declared.verdicts.Verdict.{Verdict}
use Rattle.verdict_core.specs.declared.verdicts.Verdict.TheVariants as verdict

-- one binding has the address, owns the port or whatever else is wanted, and ends its tunnel there
pub record IsOwner (t : BindingTable) (address : ℕ) (want : Want) (end : ℕ) : Type 0 where
  pub binding : Binding
  pub owner : bound t.bindings (record { 0 = address }) want ≡ binding ∷ []
  pub ends : binding.b4.0 ≡ end

-- the packet is for the router's tunnel address, its inner bytes are a packet, and its source's owner is the end of the tunnel
-- that it came through
pub record Permits (t : BindingTable) (outer : Outer) (inner : List ℕ) : Type 0 where
  pub ours : outer.dst.0 ≡ t.softwire.aftr.0
  pub packet : Packet4
  pub read : ip4_of inner ≡ Ok packet
  pub want : Want
  pub key : upstream_key packet ≡ key.At want
  pub sender : IsOwner t packet.src want outer.src.0

-- a named rule keeps the packet although its sender may send: it is the first one that holds
pub record Forbids (t : BindingTable) (outer : Outer) (inner : List ℕ) (why : Rule) : Type 0 where
  pub packet : Packet4
  pub read : ip4_of inner ≡ Ok packet
  pub first : IsFirst (KeepsUp t packet) up_order why

-- the packet goes on, out or back to a subscriber
abbrev pub IsForwarded : Verdict → Type 0
IsForwarded (verdict.Outward mtu) = Unit {0}
IsForwarded (verdict.Inward from to hop mtu back) = back ≡ true
IsForwarded (verdict.Drop why told) = ⊥
IsForwarded verdict.Held = ⊥

-- the rules by which a packet is dropped whose sender may not send
abbrev pub is_refusal : Rule → Bool
is_refusal rule.NotOurs = true
is_refusal rule.InnerMalformed = true
is_refusal rule.InnerChecksum = true
is_refusal rule.IcmpBad = true
is_refusal rule.NoPort = true
is_refusal rule.NoBinding = true
is_refusal _ = false

-- the named rules that keep a packet whose sender may send
abbrev pub is_forbidding : Rule → Bool
is_forbidding rule.Ttl = true
is_forbidding rule.HairpinOff = true
is_forbidding rule.HairpinNoBinding = true
is_forbidding rule.ToSelf = true
is_forbidding rule.TooBig = true
is_forbidding _ = false

-- this holds of the item if it is a packet from a subscriber
abbrev pub IfUp : Item → (Outer → List ℕ → Type 0) → Type 0
IfUp (item.Up outer inner) P = P outer inner
IfUp _ P = Unit {0}

-- it goes on exactly where its sender may send and no named rule keeps it
abbrev pub Forwards : BindingTable → Item → Verdict → Type 0
Forwards t i v = IfUp i (λ outer inner.
    IsForwarded v ↔ (Permits t outer inner × ((why : Rule) → Forbids t outer inner why → ⊥)))

-- where its sender may send and a named rule keeps it, it is dropped by that rule
abbrev pub Forbidden : BindingTable → Item → Verdict → Type 0
Forbidden t i v = IfUp i (λ outer inner. Permits t outer inner → (why : Rule) → Forbids t outer inner why →
    (is_forbidding why ≡ true) × ((told : Reply) × (v ≡ verdict.Drop why told)))

-- where its sender may not send, it is dropped by a rule that says so
abbrev pub Refused : BindingTable → Item → Verdict → Type 0
Refused t i v = IfUp i (λ outer inner. (Permits t outer inner → ⊥) →
    (why : Rule) × ((is_refusal why ≡ true) × ((told : Reply) × (v ≡ verdict.Drop why told))))

-- the owner of the destination of the item's packet ends its tunnel there
pub record GoesTo (t : BindingTable) (i : Item) (end : V6) : Type 0 where
  pub packet : Packet4
  pub carried : HasPacket i packet
  pub want : Want
  pub key : downstream_key packet ≡ key.At want
  pub receiver : IsOwner t packet.dst want end.0

-- what goes into a tunnel goes to the one subscriber that owns its destination
abbrev pub Delivers : BindingTable → Item → Verdict → Type 0
Delivers t i (verdict.Inward from to hop mtu back) = GoesTo t i to
Delivers t i _ = Unit {0}

-- from subscriber to subscriber (RFC 7596, section 6.2)
pub record IsFreeBack (t : BindingTable) (p : Packet4) : Type 0 where
  pub hairpin : t.softwire.hairpin ≡ true
  pub receiver : HasReceiver t p
  pub fits : FitsTunnel t p

-- from a subscriber to the IPv4 network
pub record IsFreeOut (t : BindingTable) (p : Packet4) : Type 0 where
  pub not_own : p.dst ≡ t.softwire.own.0 → ⊥
  pub fits : FitsNetwork t p

-- nothing keeps a packet whose sender may send: its time to live lasts, and so it is on its way to a subscriber's address or
-- to any other
pub record IsFree (t : BindingTable) (p : Packet4) : Type 0 where
  pub alive : 2 ≤ p.ttl
  pub back : IsSubscriberAddress t p.dst → IsFreeBack t p
  pub out : (IsSubscriberAddress t p.dst → ⊥) → IsFreeOut t p

pub record GoesOn (t : BindingTable) (outer : Outer) (inner : List ℕ) : Type 0 where
  pub sender : Permits t outer inner
  pub free : IsFree t sender.packet

-- where it goes on: to a subscriber's address into the tunnel of its owner, to any other address out
pub record IsOnItsWay (t : BindingTable) (p : Packet4) (v : Verdict) : Type 0 where
  pub back : IsSubscriberAddress t p.dst →
      (r : HasReceiver t p) × (v ≡ verdict.Inward t.softwire.aftr r.binding.b4 t.softwire.hop_limit t.softwire.mtu6 true)
  pub out : (IsSubscriberAddress t p.dst → ⊥) → v ≡ verdict.Outward t.softwire.mtu4

-- A subscriber's packet goes on exactly where its sender may send and nothing of the above keeps it. No list of rules is part
-- of this.
pub record IsSentOn (t : BindingTable) (outer : Outer) (inner : List ℕ) (v : Verdict) : Type 0 where
  pub exactly : IsForwarded v ↔ GoesOn t outer inner
  pub way : (g : GoesOn t outer inner) → IsOnItsWay t g.sender.packet v

abbrev pub SendsOn : BindingTable → Item → Verdict → Type 0
SendsOn t i v = IfUp i (λ outer inner. IsSentOn t outer inner v)

-- this holds of the item if it is a packet from the IPv4 network
abbrev pub IfDown : Item → (List ℕ → Type 0) → Type 0
IfDown (item.Down bytes) P = P bytes
IfDown _ P = Unit {0}

-- the packet goes to a subscriber
abbrev pub IsDelivered : Verdict → Type 0
IsDelivered (verdict.Inward from to hop mtu back) = Unit {0}
IsDelivered (verdict.Outward mtu) = ⊥
IsDelivered (verdict.Drop why told) = ⊥
IsDelivered verdict.Held = ⊥

-- The bytes are a packet that one subscriber owns the destination of, and nothing keeps it: it is not for the router itself,
-- ICMP is let in where it is ICMP, its time to live lasts, and it fits the tunnel or may be cut.
pub record IsDeliverable (t : BindingTable) (bytes : List ℕ) : Type 0 where
  pub packet : Packet4
  pub read : ip4_of bytes ≡ Ok packet
  pub receiver : HasReceiver t packet
  pub not_own : packet.dst ≡ t.softwire.own.0 → ⊥
  pub icmp : packet.protocol ≡ 1 → t.softwire.icmp_in ≡ true
  pub alive : 2 ≤ packet.ttl
  pub fits : FitsTunnel t packet

-- A packet from the IPv4 network is delivered exactly where all that is so, and into the tunnel of the subscriber that owns
-- its destination.
pub record IsBroughtIn (t : BindingTable) (bytes : List ℕ) (v : Verdict) : Type 0 where
  pub exactly : IsDelivered v ↔ IsDeliverable t bytes
  pub way : (d : IsDeliverable t bytes) →
      v ≡ verdict.Inward t.softwire.aftr d.receiver.binding.b4 t.softwire.hop_limit t.softwire.mtu6 false

abbrev pub BringsIn : BindingTable → Item → Verdict → Type 0
BringsIn t i v = IfDown i (λ bytes. IsBroughtIn t bytes v)

-- the message is an error about a packet that the router sent through the tunnel of the owner of that packet's destination
pub record RelayPermits (t : BindingTable) (src dst : V6) (message : List ℕ) : Type 0 where
  pub ours : dst.0 ≡ t.softwire.aftr.0
  pub error : Message6
  pub read : icmp6_of src.0 dst.0 message ≡ Ok error
  pub quote : TunnelQuote
  pub quoted : quote_of error.rest ≡ Ok quote
  pub from : quote.src6 ≡ t.softwire.aftr.0
  pub want : Want
  pub key : quoted_destination quote ≡ key.At want
  pub receiver : IsOwner t quote.inner.dst want quote.dst6

-- the way to the source of a quoted packet: through the tunnel of its one owner, and outside a tunnel only where no binding
-- has the address
abbrev pub LeadsTo : BindingTable → TunnelQuote → Path → Type 0
LeadsTo t quote path.Plain = is_bound_address t quote.inner.src ≡ false
LeadsTo t quote (path.Tunnel hop from to) =
    (from ≡ t.softwire.aftr) × ((want : Want) × ((quoted_source quote ≡ key.At want) × IsOwner t quote.inner.src want to.0))

-- this holds of the item if it is an ICMPv6 message
abbrev pub IfMessage : Item → (V6 → V6 → List ℕ → Type 0) → Type 0
IfMessage (item.Icmp6 src dst message) P = P src dst message
IfMessage _ P = Unit {0}

-- a relayed error is about a packet that the router sent, and leads to that packet's source
abbrev pub IsRelayedOwn : BindingTable → V6 → V6 → List ℕ → Verdict → Type 0
IsRelayedOwn t src dst message (verdict.Drop why (reply.Relay own code mtu way)) =
    (permitted : RelayPermits t src dst message) × LeadsTo t permitted.quote way
IsRelayedOwn t src dst message _ = Unit {0}

abbrev pub RelaysOwn : BindingTable → Item → Verdict → Type 0
RelaysOwn t i v = IfMessage i (λ src dst message. IsRelayedOwn t src dst message v)

-- such an error is relayed, unless the source of the quoted packet is an address of the table without an owner, or no ICMP
-- error may be sent about that packet
abbrev pub RelaysAll : BindingTable → Item → Verdict → Type 0
RelaysAll t i v = IfMessage i (λ src dst message. (permitted : RelayPermits t src dst message) → is_tunnel_error message ≡ true →
    (is_bound_address t permitted.quote.inner.src ≡ true → owner_end t permitted.quote.inner.src (quoted_source permitted.quote) ≡ None → ⊥) →
    gets_answer permitted.quote.inner ≡ true →
    (way : Path) × (v ≡ relayed t.softwire permitted.error.kind permitted.error.word way))

-- exactly one binding has the source of a quoted packet and owns the port there, or whatever else stands for it
pub record HasQuotedSender (t : BindingTable) (quote : TunnelQuote) : Type 0 where
  pub want : Want
  pub key : quoted_source quote ≡ key.At want
  pub binding : Binding
  pub owner : bound t.bindings (record { 0 = quote.inner.src }) want ≡ binding ∷ []

-- the message is an error of a type that a tunnel's way can give, about a packet that the router sent to its owner; that packet's
-- source is no subscriber's address or has one owner, and an ICMP error may be sent about it
pub record IsOwedOn (t : BindingTable) (src dst : V6) (message : List ℕ) : Type 0 where
  pub about : RelayPermits t src dst message
  pub error : is_tunnel_error message ≡ true
  pub source : IsSubscriberAddress t about.quote.inner.src → HasQuotedSender t about.quote
  pub answered : gets_answer about.quote.inner ≡ true

abbrev pub IsRelayed : Verdict → Type 0
IsRelayed (verdict.Drop why (reply.Relay own code mtu way)) = Unit {0}
IsRelayed _ = ⊥

-- An error about a tunnel packet is passed on exactly where all that is so, and to the quoted packet's source.
pub record IsPassedOn (t : BindingTable) (src dst : V6) (message : List ℕ) (v : Verdict) : Type 0 where
  pub exactly : IsRelayed v ↔ IsOwedOn t src dst message
  pub way : (o : IsOwedOn t src dst message) →
      (way : Path) × (LeadsTo t o.about.quote way × (v ≡ relayed t.softwire o.about.error.kind o.about.error.word way))

abbrev pub PassesOn : BindingTable → Item → Verdict → Type 0
PassesOn t i v = IfMessage i (λ src dst message. IsPassedOn t src dst message v)

-- who may send, who receives, and whom errors reach
pub record HasAccess (t : BindingTable) (i : Item) (v : Verdict) : Type 0 where
  pub forwards : Forwards t i v
  pub forbidden : Forbidden t i v
  pub refused : Refused t i v
  pub sends_on : SendsOn t i v
  pub brings_in : BringsIn t i v
  pub delivers : Delivers t i v
  pub relays_own : RelaysOwn t i v
  pub relays_all : RelaysAll t i v
  pub passes_on : PassesOn t i v
