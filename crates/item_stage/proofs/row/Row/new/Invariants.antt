use Rattle.std.proofs.Common.{◌≡◌, ◌≤◌, ◌-◌, length, []}
use Rattle.std.specs.Prelude.{replicate}
use Rattle.item_stage.proofs.row.Row.new.Given as goal

abbrev pub decreases-lanes : goal.decreases-lanes
decreases-lanes g l = 16 - length l.lanes.items

abbrev pub invariant-lanes : goal.invariant-lanes
invariant-lanes g l = (length l.lanes.items ≤ 16) × (l.lanes.items ≡ replicate (length l.lanes.items) [])
