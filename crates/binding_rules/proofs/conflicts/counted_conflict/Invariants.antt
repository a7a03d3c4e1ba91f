use Rattle.std.proofs.Common.{◌≡◌, ◌+◌, ◌*◌, ◌≤◌, length}
use Rattle.binding_rules.specs.Conflicts.{Conflict}
use Rattle.binding_rules.specs.Scans.{IsFirstPair}
use Rattle.binding_rules.proofs.Gone.{IsGone, AreGone}
use Rattle.binding_rules.specs.Steps.{addresses}
use Rattle.binding_rules.proofs.Counts.{allowed}
use Rattle.binding_rules.proofs.conflicts.counted_conflict.Given as goal

abbrev pub invariant-places : goal.invariant-places
invariant-places g l = record {
  size : length l.owners.items ≡ 65536;
  names : AreGone l.bindings l.place l.owners.items;
  first : IsFirstPair l.bindings (Conflict l.edition) (IsGone l.bindings l.place) l.best;
  cost : l.steps + allowed l.bindings l.place ≤ l.initial.steps + 400000 * addresses l.bindings + 10 * length l.bindings;
}
