use Rattle.std.proofs.Common.{◌≡◌, ◌≤◌, length}
use Rattle.table_costs.specs.Costs.{nests_deeper, seen}
use Rattle.table_costs.specs.declared.parts.Part.TheVariants as part
use Rattle.table_costs.proofs.depth.is_too_deep.Given as goal

abbrev pub invariant-bytes : goal.invariant-bytes
invariant-bytes l = record {
  same : nests_deeper l.depth (seen l.part l.rest) ≡ nests_deeper 0 (seen part.Plain l.text);
  few : l.depth ≤ 8;
}

abbrev pub decreases-bytes : goal.decreases-bytes
decreases-bytes l = length l.rest
