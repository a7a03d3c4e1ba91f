use Rattle.std.proofs.Common.{◌≡◌, ℕ, ◌<◌, length, Some}
use Rattle.std.specs.Prelude.{slice_get}
use Rattle.binding_rules.specs.declared.binding.Binding.{Binding}
use Rattle.binding_rules.specs.Scans.{IsFollowing, slot}
use Rattle.binding_rules.proofs.chains.next_of.Given as goal

abbrev pub invariant-places : goal.invariant-places
invariant-places l = record {
  size : length l.next.items ≡ l.place;
  following : (p : ℕ) (x : Binding) → p < l.place → slice_get l.bindings p ≡ Some x → IsFollowing l.bindings x.v4.0 p l.place (slot l.next.items p);
}
