use Rattle.std.proofs.Common.{◌≡◌, ◌-◌, ◌≤◌, length}
use Rattle.run_output.specs.Cells.{HasMarked}
use Rattle.run_output.specs.Limiting.{rate_of}
use Rattle.run_output.proofs.limits.mark_limited.Given as goal

abbrev pub invariant-records : goal.invariant-records
invariant-records l = record {
  within : l.i ≤ length l.outcomes;
  marked : HasMarked l.form l.records l.outcomes l.i l.initial.limit l.limit l.limited.items;
  count : length l.limited.items ≡ l.i;
  rate : rate_of l.limit ≡ rate_of l.initial.limit;
}

abbrev pub decreases-records : goal.decreases-records
decreases-records l = length l.outcomes - l.i
