use Rattle.std.proofs.Common.{◌≡◌, ◌+◌, ◌++◌, length}
use Rattle.binding_rules.proofs.Slots.{IsTakenBy}
use Rattle.binding_rules.proofs.owners.take_ports.Given as goal

abbrev pub invariant-ports : goal.invariant-ports
invariant-ports g l = record {
  all : l.initial.port-iterator ≡ l.yielded ++ l.port-iterator;
  cost : l.steps ≡ l.initial.steps + length l.yielded;
  taken : IsTakenBy l.yielded l.place l.initial.owners l.owners;
}
