-- When two bindings cannot stand in one table.
use Rattle.std.specs.Prelude.{◌≡◌, ℕ, ◌⊎◌}
use Rattle.port_set.specs.PortSets.{InSet}
use Rattle.binding_rules.specs.declared.binding.Binding.{Binding}
use Rattle.binding_rules.specs.declared.settings.Edition.{Edition}
use Rattle.binding_rules.specs.declared.settings.Edition.TheVariants as edition

-- a port is in the sets of both
abbrev pub HaveCommonPort : Binding → Binding → Type 0
HaveCommonPort x y = (p : ℕ) × InSet x.offset x.length x.psid p × InSet y.offset y.length y.psid p

abbrev pub HaveOneShape : Binding → Binding → Type 0
HaveOneShape x y = (x.offset ≡ y.offset) × (x.length ≡ y.length)

-- their shapes differ, where the edition forbids that
abbrev pub AreMixed : Edition → Binding → Binding → Type 0
AreMixed edition.One x y = HaveOneShape x y → ⊥
AreMixed edition.Two x y = ⊥

-- they have one address, and a common port or, where the edition forbids it, unlike shapes
pub record Conflict (e : Edition) (x y : Binding) : Type 0 where
  pub address : x.v4.0 ≡ y.v4.0
  pub cause : AreMixed e x y ⊎ HaveCommonPort x y
