use Rattle.std.proofs.Common.{◌≡◌, ◌+◌, ◌≤◌, length}
use Rattle.table_hints.specs.Lines.{line_ends}
use Rattle.table_hints.proofs.lines.last_begun.Given as goal

abbrev pub invariant-bytes : goal.invariant-bytes
invariant-bytes l = record {
  count : l.line + line_ends l.rest ≡ line_ends l.front + 1;
  room : l.line + length l.rest ≤ length l.front + 1;
  least : 1 ≤ l.begun;
  most : l.begun ≤ l.line;
}

abbrev pub decreases-bytes : goal.decreases-bytes
decreases-bytes l = length l.rest
