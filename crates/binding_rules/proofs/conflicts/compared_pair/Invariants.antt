use Rattle.std.proofs.Common.{◌+◌, ◌*◌, ◌≤◌}
use Rattle.binding_rules.specs.Steps.{count_of}
use Rattle.binding_rules.proofs.Counts.{remaining}
use Rattle.binding_rules.proofs.Links.{reach}
use Rattle.binding_rules.proofs.Pairs.{IsCompared}
use Rattle.binding_rules.proofs.conflicts.compared_pair.Given as goal

abbrev pub invariant-chain : goal.invariant-chain
invariant-chain g l = record {
  walked : IsCompared l.bindings l.fn.v4.0 l.at l.best;
  cost : l.steps + 257 * remaining l.bindings l.fn.v4.0 l.at ≤ l.initial.steps + 257 * count_of l.fn.v4.0 l.bindings;
}

abbrev pub decreases-chain : goal.decreases-chain
decreases-chain g l = reach l.at
