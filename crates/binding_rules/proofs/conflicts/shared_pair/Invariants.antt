use Rattle.std.proofs.Common.{◌+◌, ◌≤◌, false}
use Rattle.binding_rules.specs.Steps.{count_of}
use Rattle.binding_rules.proofs.Counts.{remaining}
use Rattle.binding_rules.proofs.Links.{reach}
use Rattle.binding_rules.proofs.Pairs.{IsWalked}
use Rattle.binding_rules.proofs.conflicts.shared_pair.Given as goal

abbrev pub invariant-chain : goal.invariant-chain
invariant-chain g l = record {
  walked : IsWalked false l.bindings l.v4.0 l.at l.initial.owners l.owners l.best;
  cost : l.steps + remaining l.bindings l.v4.0 l.at ≤ l.initial.steps + count_of l.v4.0 l.bindings;
}

abbrev pub decreases-chain : goal.decreases-chain
decreases-chain g l = reach l.at
