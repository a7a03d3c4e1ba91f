use Rattle.std.proofs.Common.{◌+◌, ◌*◌, ◌≤◌, true}
use Rattle.binding_rules.proofs.Links.{IsOf}
use Rattle.binding_rules.proofs.Rising.{IsRisenTo}
use Rattle.binding_rules.proofs.Taken.{taken}
use Rattle.binding_rules.proofs.Upwards.{left_above}
use Rattle.binding_rules.proofs.conflicts.risen_pair.Given as goal

abbrev pub invariant-chain : goal.invariant-chain
invariant-chain g l = record {
  here : IsOf l.bindings l.v4.0 l.at;
  risen : IsRisenTo true l.bindings l.v4.0 l.at l.initial.owners l.owners;
  cost : l.steps ≤ l.initial.steps + 2 * taken l.bindings l.v4.0 l.owners;
}

abbrev pub decreases-chain : goal.decreases-chain
decreases-chain g l = left_above l.bindings l.at
