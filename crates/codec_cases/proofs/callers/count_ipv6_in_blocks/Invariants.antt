use Rattle.std.proofs.Common.{◌-◌, ◌^◌, ◌≤◌}
use Rattle.codec_cases.proofs.callers.count_ipv6_in_blocks.Given as goal

abbrev pub invariant-packets : goal.invariant-packets
invariant-packets g l = (l.number ≤ 2 ^ 31) × (l.found ≤ l.number)

abbrev pub decreases-packets : goal.decreases-packets
decreases-packets g l = 2 ^ 31 - l.number
