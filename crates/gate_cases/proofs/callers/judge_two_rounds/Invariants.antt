use Rattle.std.proofs.Common.{◌≤◌}
use Rattle.gate_cases.proofs.callers.judge_two_rounds.Given as goal

abbrev pub invariant-outcomes : goal.invariant-outcomes
invariant-outcomes g l = l.dropped ≤ l.index
