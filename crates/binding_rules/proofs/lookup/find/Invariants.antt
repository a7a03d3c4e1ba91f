use Rattle.std.proofs.Common.{◌≡◌, ℕ, ◌<◌, Some, false}
use Rattle.std.specs.Prelude.{slice_get}
use Rattle.binding_rules.specs.declared.binding.Binding.{Binding}
use Rattle.binding_rules.specs.Bindings.{is_bound}
use Rattle.binding_rules.proofs.lookup.find.Given as goal

abbrev pub invariant-places : goal.invariant-places
invariant-places l = (n : ℕ) (y : Binding) → n < l.place → slice_get l.bindings n ≡ Some y → is_bound l.v4 l.want y ≡ false
