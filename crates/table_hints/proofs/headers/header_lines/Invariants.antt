-- The lines found so far, and those of the headers to come.
use Rattle.std.proofs.Common.{◌≡◌, ◌+◌, ◌++◌, ◌≤◌, length}
use Rattle.table_hints.specs.Lines.{header_lines}
use Rattle.table_hints.proofs.LineLemmas.{headers_from}
use Rattle.table_hints.proofs.headers.header_lines.Given as goal

abbrev pub invariant-bytes : goal.invariant-bytes
invariant-bytes l = record {
  found : l.lines.items ++ headers_from l.part l.line l.rest ≡ header_lines l.text;
  room : l.line + length l.rest ≤ length l.text + 1;
}

abbrev pub decreases-bytes : goal.decreases-bytes
decreases-bytes l = length l.rest
