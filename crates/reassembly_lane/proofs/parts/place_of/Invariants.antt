use Rattle.std.proofs.Common.{◌-◌, ◌<◌, ◌≤◌, length}
use Rattle.reassembly_lane.specs.Sound.{part_at}
use Rattle.reassembly_lane.proofs.parts.place_of.Given as goal

abbrev pub invariant-loop-low : goal.invariant-loop-low
invariant-loop-low l = record {
  ordered : l.low ≤ l.high;
  within : l.high ≤ length l.parts;
  before : 0 < l.low → (part_at l.parts (l.low - 1)).offset < l.offset;
  behind : l.high < length l.parts → l.offset ≤ (part_at l.parts l.high).offset;
}

abbrev pub decreases-loop-low : goal.decreases-loop-low
decreases-loop-low l = l.high - l.low
