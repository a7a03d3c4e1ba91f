use Rattle.std.proofs.Common.{length}
use Rattle.fragmenter.specs.Left6.{left6}
use Rattle.cut_cases.proofs.callers.push_fragments.Given as goal

abbrev pub decreases-fragments : goal.decreases-fragments
decreases-fragments l = length (left6 l.cuts)
