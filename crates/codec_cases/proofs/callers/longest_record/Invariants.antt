use Rattle.std.proofs.Common.{◌-◌, ◌^◌, ◌≤◌}
use Rattle.codec_cases.proofs.callers.longest_record.Given as goal

abbrev pub invariant-rounds : goal.invariant-rounds
invariant-rounds g l = let r = g.R.CaptureReader in (r.ready l.reader l.number) × (l.number ≤ 2 ^ 31)

abbrev pub decreases-rounds : goal.decreases-rounds
decreases-rounds g l = 2 ^ 31 - l.number
