-- How many packets are sent for a verdict.
use Rattle.std.specs.Prelude.{◌≡◌, ℕ, ◌≤◌}
use Rattle.verdict_core.specs.declared.verdicts.Reply.TheVariants as reply
use Rattle.verdict_core.specs.declared.verdicts.Verdict.{Verdict}
use Rattle.verdict_core.specs.declared.verdicts.Verdict.TheVariants as verdict

-- What goes on is sent, in one packet or in pieces; of a dropped packet's sender that is told, one packet tells; and nothing is sent
-- for what is held or dropped in silence.
abbrev pub Sends : Verdict → ℕ → Type 0
Sends (verdict.Outward mtu) packets = 1 ≤ packets
Sends (verdict.Inward from to hop mtu back) packets = 1 ≤ packets
Sends (verdict.Drop why reply.Silent) packets = packets ≡ 0
Sends (verdict.Drop why _) packets = packets ≡ 1
Sends verdict.Held packets = packets ≡ 0
