use Rattle.std.proofs.Common.{◌≡◌, ◌+◌, Some}
use Rattle.binding_rules.specs.Scans.{ends_within}
use Rattle.binding_rules.proofs.Links.{IsWithin, reach}
use Rattle.binding_rules.proofs.chains.has_at_most.Given as goal

abbrev pub invariant-chain : goal.invariant-chain
invariant-chain g l = record {
  here : IsWithin l.bindings l.at;
  same : ends_within l.previous l.at l.left ≡ ends_within l.previous (Some l.last) l.most;
  cost : l.steps + l.left ≡ l.initial.steps + l.most;
}

abbrev pub decreases-chain : goal.decreases-chain
decreases-chain g l = reach l.at
