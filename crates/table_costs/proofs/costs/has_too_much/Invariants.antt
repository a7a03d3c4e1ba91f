-- The marks so far and those to come, and whether a header is or gets too long.
use Rattle.std.proofs.Common.{◌≡◌, ◌+◌, ◌≤◌, length}
use Rattle.table_costs.specs.Costs.{seen, marks, has_long_header}
use Rattle.table_costs.specs.declared.parts.Part.TheVariants as part
use Rattle.table_costs.proofs.Looks.{long_from}
use Rattle.table_costs.proofs.costs.has_too_much.Given as goal

abbrev pub invariant-bytes : goal.invariant-bytes
invariant-bytes l = record {
  count : l.marks + marks (seen l.part l.rest) ≡ marks (seen part.Plain l.text);
  room : l.marks + length l.rest ≤ length l.text;
  header : l.header ≤ 97;
  long : long_from l.header (seen l.part l.rest) ≡ has_long_header (seen part.Plain l.text);
}

abbrev pub decreases-bytes : goal.decreases-bytes
decreases-bytes l = length l.rest
