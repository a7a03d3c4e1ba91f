use Rattle.std.proofs.Common.{◌≡◌, ◌++◌}
use Rattle.reassembly_lane.specs.Lanes.{first_numbers}
use Rattle.reassembly_lane.proofs.late.all_numbers.Given as goal

abbrev pub invariant-loop-context : goal.invariant-loop-context
invariant-loop-context g l = l.numbers.items ++ first_numbers l.context-iterator ≡ first_numbers l.contexts.entries
