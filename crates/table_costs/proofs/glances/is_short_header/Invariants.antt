use Rattle.std.proofs.Common.{◌+◌, ◌*◌, ◌≤◌, length}
use Rattle.table_costs.specs.Costs.{header_weight, seen}
use Rattle.table_costs.specs.declared.parts.Part.TheVariants as part
use Rattle.table_costs.proofs.glances.is_short_header.Given as goal

abbrev pub invariant-bytes : goal.invariant-bytes
invariant-bytes l = record {
  plain : header_weight (seen part.Plain l.bytes) ≤ l.count * 8 + header_weight (seen part.Plain l.rest);
  few : l.count ≤ 12;
}

abbrev pub decreases-bytes : goal.decreases-bytes
decreases-bytes l = length l.rest
