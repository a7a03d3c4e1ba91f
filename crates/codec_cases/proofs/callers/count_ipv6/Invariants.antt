use Rattle.std.proofs.Common.{◌+◌, ◌*◌, ◌-◌, ◌^◌, ◌≤◌}
use Rattle.codec_cases.proofs.callers.count_ipv6.Given as goal

abbrev pub invariant-records : goal.invariant-records
invariant-records g l = (l.at ≤ 24 + 262160 * l.number) × (l.number ≤ 2 ^ 31) × (l.found ≤ l.number)

abbrev pub decreases-records : goal.decreases-records
decreases-records g l = 2 ^ 31 - l.number
