use Rattle.std.proofs.Common.{◌≡◌, ◌+◌, ◌≤◌, length}
use Rattle.table_costs.specs.Costs.{seen, marks}
use Rattle.table_costs.specs.declared.parts.Part.TheVariants as part
use Rattle.table_costs.proofs.costs.count_outside.Given as goal

abbrev pub invariant-bytes : goal.invariant-bytes
invariant-bytes l = record {
  count : l.marks + marks (seen l.part l.rest) ≡ marks (seen part.Plain l.text);
  room : l.marks + length l.rest ≤ length l.text;
}

abbrev pub decreases-bytes : goal.decreases-bytes
decreases-bytes l = length l.rest
