use Rattle.std.proofs.Common.{◌≤◌, ◌-◌, ◌++◌, drop, length}
use Rattle.std.specs.Prelude.{IsPermutation}
use Rattle.item_stage.specs.Waiting.{numbers_in}
use Rattle.item_stage.proofs.row.push_all.Given as goal

abbrev pub decreases-lanes : goal.decreases-lanes
decreases-lanes g l = length l.lanes - l.index

abbrev pub invariant-lanes : goal.invariant-lanes
invariant-lanes g l = (l.index ≤ length l.lanes) × IsPermutation (l.initial.out.items ++ numbers_in l.lanes) (l.out.items ++ numbers_in (drop l.index l.lanes))
