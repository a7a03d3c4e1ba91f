-- Which bindings own a port of an address, or the whole address.
use Rattle.std.specs.Prelude.{◌≡◌, ℕ, ◌==◌, nat_lt, ◌&&◌, Bool, true, List, [], ◌∷◌, filter, slice_get, Some}
use Rattle.aftr_base.specs.declared.numbers.V4.{V4}
use Rattle.port_set.specs.PortSets.{in_set}
use Rattle.binding_rules.specs.declared.binding.Binding.{Binding}
use Rattle.binding_rules.specs.declared.binding.Want.{Want}
use Rattle.binding_rules.specs.declared.binding.Want.TheVariants as want

-- the binding owns what is wanted: a port of its set (RFC 7597 section 5.1), or the whole address, where no bit of a
-- port is fixed
abbrev pub owns : Want → Binding → Bool
owns (want.Port p) b = nat_lt p 65536 && in_set b.offset b.length b.psid p
owns want.Whole b = (b.offset == 0) && (b.length == 0)

-- the binding has the address and owns what is wanted
abbrev pub is_bound : V4 → Want → Binding → Bool
is_bound v4 w b = (b.v4.0 == v4.0) && owns w b

-- the bindings of the address that own what is wanted
abbrev pub bound : List Binding → V4 → Want → List Binding
bound bindings v4 w = filter (is_bound v4 w) bindings

-- the place of the one binding of the address that owns what is wanted
pub record IsPlaceOf (bindings : List Binding) (v4 : V4) (w : Want) (at : ℕ) : Type 0 where
  pub only : (x : Binding) × (slice_get bindings at ≡ Some x) × (bound bindings v4 w ≡ x ∷ [])
  pub alone : (other : ℕ) (y : Binding) → slice_get bindings other ≡ Some y → is_bound v4 w y ≡ true → other ≡ at
