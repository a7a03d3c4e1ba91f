use Rattle.std.proofs.Common.{◌≡◌, ℕ, ◌<◌, length, Some}
use Rattle.std.specs.Prelude.{slice_get}
use Rattle.std.specs.Ordering.{nat_cmp}
use Rattle.std.specs.BTreeMap.{get}
use Rattle.binding_rules.specs.declared.binding.Binding.{Binding}
use Rattle.binding_rules.specs.Scans.{IsNearest, slot}
use Rattle.binding_rules.proofs.chains.chains_of.Given as goal

abbrev pub invariant-places : goal.invariant-places
invariant-places l = record {
  size : length l.previous.items ≡ l.place;
  nearest : (p : ℕ) (x : Binding) → p < l.place → slice_get l.bindings p ≡ Some x → IsNearest l.bindings x.v4.0 p (slot l.previous.items p);
  last : (a : ℕ) → IsNearest l.bindings a l.place (get nat_cmp l.last a);
}
