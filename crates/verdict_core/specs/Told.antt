-- What the sender of a dropped packet is told: which error, under which setting, from whom and by which way, and with which size. By the
-- rule of the drop, and by no list of tests (RFC 7596, section 6.2; RFC 792; RFC 1191; RFC 4443, section 3.1).
use Rattle.std.specs.Prelude.{◌≡◌, ℕ, ◌+◌, ◌≤◌, ◌<◌, ◌&&◌, Bool, true, false, Ok}
use Rattle.binding_rules.specs.Tables.{BindingTable}
use Rattle.binding_rules.specs.declared.settings.Softwire.{Softwire}
use Rattle.icmp_codec.specs.Message6.{Message6, icmp6_of}
use Rattle.icmp_errors.specs.Answers.{about, gets_answer, gets_answer6}
use Rattle.ip_codec.specs.Packet4.{Packet4, ip4_of, packet_len}
use Rattle.ip_codec.specs.declared.items.Item.{Item}
use Rattle.ip_codec.specs.declared.items.Item.TheVariants as item
use Rattle.ip_codec.specs.declared.items.Outer.{Outer}
use Rattle.ip_codec.specs.declared.rules.Rule.{Rule}
use Rattle.ip_codec.specs.declared.rules.Rule.TheVariants as rule
use Rattle.verdict_core.specs.Owners.{IsSubscriberAddress}
use Rattle.verdict_core.specs.declared.verdicts.Path.{Path}
use Rattle.verdict_core.specs.declared.verdicts.Path.TheVariants as path
use Rattle.verdict_core.specs.declared.verdicts.Reply.{Reply}
use Rattle.verdict_core.specs.declared.verdicts.Reply.TheVariants as reply
use Rattle.verdict_core.specs.declared.verdicts.Verdict.{Verdict}
use Rattle.verdict_core.specs.declared.verdicts.Verdict.TheVariants as verdict

-- the error is told exactly if it is allowed
pub record IsTold (allowed : Bool) (error told : Reply) : Type 0 where
  pub allows : allowed ≡ true → told ≡ error
  pub forbids : allowed ≡ false → told ≡ reply.Silent

-- the size that a packet must keep: it was larger, and must not be cut
pub record IsSizeTold (s : Softwire) (way : Path) (p : Packet4) (size : ℕ) (told : Reply) : Type 0 where
  pub larger : size < packet_len p
  pub uncut : p.df ≡ true
  pub tells : IsTold (gets_answer (about p)) (reply.TooBig s.own size way) told

-- the size of the way to an address: 40 bytes less than the subscribers' network takes if it is one of the table, since a tunnel packet has
-- 40 more (RFC 2473, section 7.2), and else what the IPv4 network takes
pub record IsSizeTo (t : BindingTable) (address size : ℕ) : Type 0 where
  pub inward : IsSubscriberAddress t address → size + 40 ≡ t.softwire.mtu6
  pub outward : (IsSubscriberAddress t address → ⊥) → size ≡ t.softwire.mtu4

-- the source of a packet from the IPv4 network, which has no tunnel
abbrev pub ToldDown : Softwire → Packet4 → Rule → Reply → Type 0
ToldDown s p rule.NoBinding told = IsTold (s.errors_down && gets_answer (about p)) (reply.Unreachable s.own path.Plain) told
ToldDown s p rule.Ttl told = IsTold (gets_answer (about p)) (reply.Exceeded s.own path.Plain) told
ToldDown s p rule.TooBig told = (size : ℕ) × ((size + 40 ≡ s.mtu6) × IsSizeTold s path.Plain p size told)
ToldDown s p _ told = told ≡ reply.Silent

-- a subscriber, in the tunnel that its packet came through
abbrev pub ToldUp : BindingTable → Outer → Packet4 → Rule → Reply → Type 0
ToldUp t outer p rule.NoBinding told =
    IsTold (t.softwire.errors_up && gets_answer6 outer.src.0) (reply.Policy t.softwire.aftr outer.src t.softwire.hop_limit) told
ToldUp t outer p rule.HairpinNoBinding told =
    IsTold (t.softwire.errors_down && gets_answer (about p)) (reply.Unreachable t.softwire.own (path.Tunnel t.softwire.hop_limit t.softwire.aftr outer.src)) told
ToldUp t outer p rule.Ttl told =
    IsTold (gets_answer (about p)) (reply.Exceeded t.softwire.own (path.Tunnel t.softwire.hop_limit t.softwire.aftr outer.src)) told
ToldUp t outer p rule.TooBig told =
    (size : ℕ) × (IsSizeTo t p.dst size × IsSizeTold t.softwire (path.Tunnel t.softwire.hop_limit t.softwire.aftr outer.src) p size told)
ToldUp t outer p _ told = told ≡ reply.Silent

-- The size that a passed-on 'packet too big' tells: that of the tunnel less its 40 bytes. A size that no IPv6 link has, or that no tunnel packet
-- can have, counts as the nearest one that can be (RFC 2473, section 8; the limits are ours).
pub record IsSizeLess (told size : ℕ) : Type 0 where
  pub common : 1280 ≤ told → told ≤ 65575 → size + 40 ≡ told
  pub least : told < 1280 → size + 40 ≡ 1280
  pub most : 65575 < told → size ≡ 65535

-- what an error that is passed on becomes: 'packet too big' (type 2) fragmentation needed with that size, any other host unreachable
pub record IsRelay (s : Softwire) (kind word : ℕ) (told : Reply) : Type 0 where
  pub code : ℕ
  pub size : ℕ
  pub way : Path
  pub is : told ≡ reply.Relay s.own code size way
  pub too_big : kind ≡ 2 → (code ≡ 4) × IsSizeLess word size
  pub other : (kind ≡ 2 → ⊥) → (code ≡ 1) × (size ≡ 0)

abbrev pub ToldMessage : Softwire → ℕ → ℕ → Rule → Reply → Type 0
ToldMessage s kind word rule.Relayed told = IsRelay s kind word told
ToldMessage s kind word _ told = told ≡ reply.Silent

-- what is told about an item: by its packet or message if that can be read, and nothing if not
abbrev pub IsDue : BindingTable → Item → Rule → Reply → Type 0
IsDue t (item.Down bytes) why told = (p : Packet4) → ip4_of bytes ≡ Ok p → ToldDown t.softwire p why told
IsDue t (item.Up outer inner) why told = (p : Packet4) → ip4_of inner ≡ Ok p → ToldUp t outer p why told
IsDue t (item.Icmp6 src dst message) why told = (m : Message6) → icmp6_of src.0 dst.0 message ≡ Ok m → ToldMessage t.softwire m.kind m.word why told
IsDue t _ why told = told ≡ reply.Silent

abbrev pub TellsWhatIsDue : BindingTable → Item → Verdict → Type 0
TellsWhatIsDue t i (verdict.Drop why told) = IsDue t i why told
TellsWhatIsDue t i _ = Unit {0}
