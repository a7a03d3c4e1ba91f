use Rattle.std.proofs.Common.{◌≡◌, ◌+◌, ◌≤◌, length}
use Rattle.table_hints.specs.Lines.{line_ends}
use Rattle.table_hints.proofs.lines.line_behind.Given as goal

abbrev pub invariant-bytes : goal.invariant-bytes
invariant-bytes l = record {
  count : l.line + line_ends l.rest ≡ line_ends l.front + 1;
  room : l.line + length l.rest ≤ length l.front + 1;
}

abbrev pub decreases-bytes : goal.decreases-bytes
decreases-bytes l = length l.rest
