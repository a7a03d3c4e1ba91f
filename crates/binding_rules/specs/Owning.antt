-- Which ports of its address a binding has (RFC 7597, section 5.1), by the bits of a port and not by a test.
use Rattle.std.specs.Prelude.{◌≡◌, ℕ, ◌<◌, ◌^◌, ◌↔◌, true, List, [], ◌∷◌, slice_get, Some}
use Rattle.aftr_base.specs.declared.numbers.V4.{V4}
use Rattle.port_set.specs.PortSets.{InSet}
use Rattle.binding_rules.specs.Bindings.{bound, owns}
use Rattle.binding_rules.specs.declared.binding.Binding.{Binding}
use Rattle.binding_rules.specs.declared.binding.Want.{Want}
use Rattle.binding_rules.specs.declared.binding.Want.TheVariants as want

-- The binding has the port if the port's bits match its identifier. It has the whole address if no bit of a port is fixed.
abbrev pub HasWanted : Want → Binding → Type 0
HasWanted (want.Port p) b = InSet b.offset b.length b.psid p
HasWanted want.Whole b = (b.offset ≡ 0) × (b.length ≡ 0)

-- a binding of the list that has the address, and has what is wanted of it
pub record IsBindingOf (bindings : List Binding) (v4 : V4) (w : Want) (b : Binding) : Type 0 where
  pub at : ℕ
  pub listed : slice_get bindings at ≡ Some b
  pub address : b.v4.0 ≡ v4.0
  pub has : HasWanted w b

-- a binding owns exactly what it has
abbrev pub OwnsWhatItHas : Type 0
OwnsWhatItHas = (w : Want) (b : Binding) → (owns w b ≡ true) ↔ HasWanted w b

-- a binding whose identifier is in range has the whole address exactly if it has each of its ports (the premise holds of each binding
-- of a table)
abbrev pub WholeIsEveryPort : Type 0
WholeIsEveryPort = (b : Binding) → b.psid < 2 ^ b.length → HasWanted want.Whole b ↔ ((p : ℕ) → p < 65536 → HasWanted (want.Port p) b)

-- an owner that is found is a binding of the list, and has what is wanted
abbrev pub OwnersAreListed : Type 0
OwnersAreListed = (bindings : List Binding) (v4 : V4) (w : Want) (b : Binding) → bound bindings v4 w ≡ b ∷ [] → IsBindingOf bindings v4 w b
