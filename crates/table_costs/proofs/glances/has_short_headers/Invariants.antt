use Rattle.std.proofs.Common.{◌≤◌, length}
use Rattle.table_costs.proofs.Skips.{AreShort}
use Rattle.table_costs.proofs.glances.has_short_headers.Given as goal

-- what is to come decides
abbrev pub invariant-brackets : goal.invariant-brackets
invariant-brackets l = record { decides : AreShort l.rest → AreShort l.text; room : length l.rest ≤ length l.text }

abbrev pub decreases-brackets : goal.decreases-brackets
decreases-brackets l = length l.rest
