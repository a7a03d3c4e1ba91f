use Rattle.std.proofs.Common.{◌≡◌}
use Rattle.stage_cases.proofs.lines.goes.Given as goal

abbrev pub invariant-rounds : goal.invariant-rounds
invariant-rounds g l = (l.stage.number ≡ l.number) × (l.other.number ≡ l.behind)
