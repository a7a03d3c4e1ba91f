use Rattle.std.proofs.Common.{◌+◌, ◌≤◌}
use Rattle.binding_rules.specs.Conflicts.{HaveOneShape}
use Rattle.binding_rules.specs.Scans.{IsLeast, IsLater}
use Rattle.binding_rules.specs.Steps.{count_of}
use Rattle.binding_rules.proofs.Counts.{remaining}
use Rattle.binding_rules.proofs.Links.{IsOf, reach}
use Rattle.binding_rules.proofs.chains.least_unlike.Given as goal

abbrev pub invariant-chain : goal.invariant-chain
invariant-chain g l = record {
  here : IsOf l.bindings l.like.v4.0 l.at;
  least : IsLeast (IsLater l.bindings l.like.v4.0 l.at (λ x. HaveOneShape l.like x → ⊥)) l.found;
  cost : l.steps + remaining l.bindings l.like.v4.0 l.at ≤ l.initial.steps + count_of l.like.v4.0 l.bindings;
}

abbrev pub decreases-chain : goal.decreases-chain
decreases-chain g l = reach l.at
