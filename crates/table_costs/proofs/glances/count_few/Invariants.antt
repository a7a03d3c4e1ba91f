use Rattle.std.proofs.Common.{◌≡◌, ◌+◌, ◌≤◌, length}
use Rattle.table_costs.specs.Costs.{marks}
use Rattle.table_costs.proofs.glances.count_few.Given as goal

abbrev pub invariant-bytes : goal.invariant-bytes
invariant-bytes l = (l.count + marks l.rest ≡ marks l.piece) × (l.count + length l.rest ≤ length l.piece)

abbrev pub decreases-bytes : goal.decreases-bytes
decreases-bytes l = length l.rest
