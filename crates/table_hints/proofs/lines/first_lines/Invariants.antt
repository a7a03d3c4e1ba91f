use Rattle.std.proofs.Common.{◌≡◌, ◌+◌, ◌≤◌, length}
use Rattle.table_hints.specs.Lines.{first_lines}
use Rattle.table_hints.proofs.lines.first_lines.Given as goal

abbrev pub invariant-bytes : goal.invariant-bytes
invariant-bytes l = record {
  whole : l.end + length (first_lines l.left l.rest) ≡ length (first_lines l.count l.text);
  room : l.end + length l.rest ≤ length l.text;
}

abbrev pub decreases-bytes : goal.decreases-bytes
decreases-bytes l = length l.rest
