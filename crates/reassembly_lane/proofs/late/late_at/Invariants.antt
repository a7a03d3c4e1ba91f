use Rattle.std.proofs.Common.{◌≡◌, ◌≤◌, ℕ, ◌++◌}
use Rattle.reassembly_lane.specs.Lanes.{late_numbers, open_at}
use Rattle.reassembly_lane.specs.Since.{Since}
use Rattle.reassembly_lane.proofs.late.late_at.Given as goal

abbrev pub invariant-loop-context : goal.invariant-loop-context
invariant-loop-context g l = record {
  told : l.numbers.items ++ late_numbers l.time l.context-iterator ≡ late_numbers l.time l.contexts.entries;
  since : (bound : ℕ) → bound ≤ l.oldest → Since bound (open_at l.time l.context-iterator) → Since bound (open_at l.time l.contexts.entries);
}
