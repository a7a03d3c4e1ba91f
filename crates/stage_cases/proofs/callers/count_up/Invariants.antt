use Rattle.std.proofs.Common.{◌≤◌}
use Rattle.stage_cases.proofs.callers.count_up.Given as goal

abbrev pub invariant-items : goal.invariant-items
invariant-items l = l.found ≤ l.index
