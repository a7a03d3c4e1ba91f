use Rattle.std.proofs.Common.{ℕ, ◌+◌, ◌<◌, ◌≤◌, Some, length}
use Rattle.binding_rules.specs.Scans.{IsAtAddress}
use Rattle.binding_rules.specs.Steps.{count_of}
use Rattle.binding_rules.proofs.Counts.{remaining}
use Rattle.binding_rules.proofs.chains.head_of.Given as goal

abbrev pub invariant-chain : goal.invariant-chain
invariant-chain g l = record {
  within : l.place < length l.bindings;
  same : (a : ℕ) → IsAtAddress l.bindings a l.last → IsAtAddress l.bindings a l.place;
  cost : (a : ℕ) → IsAtAddress l.bindings a l.last → l.steps + remaining l.bindings a (Some l.place) ≤ l.initial.steps + count_of a l.bindings;
}

abbrev pub decreases-chain : goal.decreases-chain
decreases-chain g l = l.place
