-- Where a reply goes: back by the way that the packet came, and from the router's own addresses.
use Rattle.std.specs.Prelude.{◌≡◌, ℕ, ◌-◌, ◌≤◌, ◌⊎◌}
use Rattle.binding_rules.specs.declared.settings.Softwire.{Softwire}
use Rattle.ip_codec.specs.declared.items.Item.{Item}
use Rattle.ip_codec.specs.declared.items.Item.TheVariants as item
use Rattle.verdict_core.specs.declared.verdicts.Path.{Path}
use Rattle.verdict_core.specs.declared.verdicts.Path.TheVariants as path
use Rattle.verdict_core.specs.declared.verdicts.Reply.{Reply}
use Rattle.verdict_core.specs.declared.verdicts.Reply.TheVariants as reply
use Rattle.verdict_core.specs.declared.verdicts.Verdict.{Verdict}
use Rattle.verdict_core.specs.declared.verdicts.Verdict.TheVariants as verdict

-- as it is to the IPv4 network, and to a subscriber in the tunnel that its packet came through (RFC 7596, section 6.2)
abbrev pub IsWayBack : Softwire → Item → Path → Type 0
IsWayBack s (item.Down bytes) way = way ≡ path.Plain
IsWayBack s (item.Up outer inner) way = way ≡ path.Tunnel s.hop_limit s.aftr outer.src
IsWayBack s _ way = ⊥

-- to the end of the tunnel that the packet came through
abbrev pub IsTunnelBack : Item → ℕ → Type 0
IsTunnelBack (item.Up outer inner) to = to ≡ outer.src.0
IsTunnelBack _ to = ⊥

-- the router's own addresses, the way, and a size of 16 bits
abbrev pub RepliesBack : Softwire → Item → Reply → Type 0
RepliesBack s i reply.Silent = Unit {0}
RepliesBack s i (reply.Unreachable own way) = (own ≡ s.own) × IsWayBack s i way
RepliesBack s i (reply.TooBig own mtu way) = (own ≡ s.own) × (IsWayBack s i way × ((mtu ≡ s.mtu6 - 40) ⊎ (mtu ≡ s.mtu4)))
RepliesBack s i (reply.Exceeded own way) = (own ≡ s.own) × IsWayBack s i way
RepliesBack s i (reply.Policy from to hop) = (from ≡ s.aftr) × ((hop ≡ s.hop_limit) × IsTunnelBack i to.0)
RepliesBack s i (reply.Relay own code mtu way) = (own ≡ s.own) × (mtu ≤ 65535)

abbrev pub GoesBack : Softwire → Item → Verdict → Type 0
GoesBack s i (verdict.Drop why told) = RepliesBack s i told
GoesBack s i _ = Unit {0}
