use Rattle.std.proofs.Common.{◌≡◌, ◌+◌, ◌≤◌, length}
use Rattle.table_costs.specs.Costs.{marks}
use Rattle.table_costs.proofs.glances.count_marks.Given as goal

abbrev pub invariant-pieces : goal.invariant-pieces
invariant-pieces l = (l.count + marks l.rest ≡ marks l.text) × (l.count + length l.rest ≤ length l.text)

abbrev pub decreases-pieces : goal.decreases-pieces
decreases-pieces l = length l.rest
