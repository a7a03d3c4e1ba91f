-- What the lines answer: drops, with what the sender is told, and ways out.
use Rattle.std.specs.Prelude.{ℕ, ◌-◌, ◌==◌, nat_lt, Bool, true, false, ◌&&◌, min, max, List, [], ◌∷◌, Option, Some, None, Result, Ok, Err, if◌then◌else◌}
use Rattle.aftr_base.specs.declared.numbers.V6.{V6}
use Rattle.binding_rules.specs.declared.settings.Softwire.{Softwire}
use Rattle.icmp_errors.specs.Answers.{about, gets_answer, gets_answer6}
use Rattle.ip_codec.specs.Packet4.{Packet4, packet_len}
use Rattle.ip_codec.specs.declared.items.Outer.{Outer}
use Rattle.ip_codec.specs.declared.rules.Rule.{Rule}
use Rattle.ip_codec.specs.declared.rules.Rule.TheVariants as rule
use Rattle.port_locate.specs.declared.keys.Wants.{Wants}
use Rattle.verdict_core.specs.Lines.{Line, passes}
use Rattle.verdict_core.specs.declared.verdicts.Path.{Path}
use Rattle.verdict_core.specs.declared.verdicts.Path.TheVariants as path
use Rattle.verdict_core.specs.declared.verdicts.Reply.{Reply}
use Rattle.verdict_core.specs.declared.verdicts.Reply.TheVariants as reply
use Rattle.verdict_core.specs.declared.verdicts.Verdict.{Verdict}
use Rattle.verdict_core.specs.declared.verdicts.Verdict.TheVariants as verdict

abbrev pub silent : Rule → Verdict
silent why = verdict.Drop why reply.Silent

-- what lines answer before the table is searched: they drop the packet for a rule, or it asks for something
abbrev pub refused : Result Wants Rule → Option Verdict
refused (Ok wants) = None
refused (Err why) = Some (silent why)

-- dropped, and the sender is told of it where the condition is true
abbrev pub dropped : Rule → Bool → Reply → Verdict
dropped why tells told = verdict.Drop why (if tells then told else reply.Silent)

-- the way back to a subscriber: the tunnel that its packet came through (RFC 7596, section 6.2)
abbrev pub way_back : Softwire → Outer → Path
way_back s outer = path.Tunnel s.hop_limit s.aftr outer.src

-- the sender is another one than the owner, or there is no owner: ICMPv6, source address failed ingress/egress policy (RFC
-- 7596, section 6.2; RFC 4443, section 2.4 (e))
abbrev pub not_sender : Softwire → Outer → Verdict
not_sender s outer =
    dropped rule.NoBinding (s.errors_up && gets_answer6 outer.src.0) (reply.Policy s.aftr outer.src s.hop_limit)

-- nobody owns the destination: host unreachable (RFC 7596, section 6.2; RFC 792)
abbrev pub no_owner : Softwire → Rule → Path → Packet4 → Verdict
no_owner s why way p = dropped why (s.errors_down && gets_answer (about p)) (reply.Unreachable s.own way)

-- the time to live is used up: time exceeded (RFC 1812, section 5.3.1)
abbrev pub time_exceeded : Softwire → Path → Packet4 → Verdict
time_exceeded s way p = dropped rule.Ttl (gets_answer (about p)) (reply.Exceeded s.own way)

-- it is too large for so many bytes and must not be cut: fragmentation needed (RFC 1191, section 4; RFC 2473, section 7.2)
abbrev pub too_large : Softwire → ℕ → Path → Packet4 → Verdict
too_large s room way p = dropped rule.TooBig (gets_answer (about p)) (reply.TooBig s.own room way)

-- how large an IPv4 packet fits into the tunnel, whose header has 40 bytes (RFC 2473, section 7.2)
abbrev pub inward_room : Softwire → ℕ
inward_room s = s.mtu6 - 40

-- the time to live is 0 or 1, and would be used up here
abbrev pub is_expired : Packet4 → Bool
is_expired p = nat_lt p.ttl 2

-- DF is set, and the packet has more bytes
abbrev pub is_too_large : ℕ → Packet4 → Bool
is_too_large room p = p.df && nat_lt room (packet_len p)

-- into the tunnel that ends there
abbrev pub inward : Softwire → Bool → V6 → Verdict
inward s back to = verdict.Inward s.aftr to s.hop_limit s.mtu6 back

-- The greatest size that an ICMPv6 error tells of, as the sender of the packet inside has to keep it: less the tunnel's header,
-- and of a size that no IPv6 link has or no tunnel packet can have the nearest one that can be (both ours). Other errors tell
-- of none.
abbrev pub relayed_mtu : ℕ → ℕ → ℕ
relayed_mtu kind word = if kind == 2 then min (max word 1280) 65575 - 40 else 0

-- fragmentation needed for a packet that was too big, and host unreachable for each other error (RFC 2473, section 8; the
-- choice of the code is ours)
abbrev pub relayed_code : ℕ → ℕ
relayed_code kind = if kind == 2 then 4 else 1

abbrev pub relayed : Softwire → ℕ → ℕ → Path → Verdict
relayed s kind word way = verdict.Drop rule.Relayed (reply.Relay s.own (relayed_code kind) (relayed_mtu kind word) way)

-- a way out to the end of the owner's tunnel, where there is an owner: no line and no address where there is none
abbrev pub ways_to : Option V6 → (V6 → Verdict) → List Line
ways_to None answer = []
ways_to (Some to) answer = passes (answer to) ∷ []

abbrev pub is_missing : Option V6 → Bool
is_missing None = true
is_missing (Some end) = false

-- the owner's tunnel ends there
abbrev pub ends_at : Option V6 → ℕ → Bool
ends_at None address = false
ends_at (Some end) address = end.0 == address
