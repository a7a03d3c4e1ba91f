use Rattle.std.proofs.Common.{◌≡◌, ◌+◌, ◌++◌, length}
use Rattle.binding_rules.specs.Scans.{IsLeast}
use Rattle.binding_rules.proofs.Slots.{IsNamed}
use Rattle.binding_rules.proofs.owners.least_of_ports.Given as goal

abbrev pub invariant-ports : goal.invariant-ports
invariant-ports g l = record {
  all : l.initial.port-iterator ≡ l.yielded ++ l.port-iterator;
  cost : l.steps ≡ l.initial.steps + length l.yielded;
  least : IsLeast (IsNamed l.yielded l.bindings l.v4.0 l.owners) l.met;
}
