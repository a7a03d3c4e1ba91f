use Rattle.std.proofs.Common.{◌≡◌, length}
use Rattle.table_hints.specs.Lines.{behind_blanks}
use Rattle.table_hints.proofs.headers.behind_blanks.Given as goal

abbrev pub invariant-blanks : goal.invariant-blanks
invariant-blanks l = behind_blanks l.rest ≡ behind_blanks l.text

abbrev pub decreases-blanks : goal.decreases-blanks
decreases-blanks l = length l.rest
