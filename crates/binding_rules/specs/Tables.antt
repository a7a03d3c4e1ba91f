-- What a table is, and what holds of each.
use Rattle.std.specs.Prelude.{◌≡◌, ℕ, ◌^◌, ◌<◌, ◌≤◌, List, length, slice_get, Some}
use Rattle.aftr_base.specs.declared.numbers.V4.{V4}
use Rattle.port_set.specs.Shapes.{IsShape}
use Rattle.binding_rules.specs.Bindings.{bound}
use Rattle.binding_rules.specs.Conflicts.{Conflict}
use Rattle.binding_rules.specs.Refusals.{Applies}
use Rattle.binding_rules.specs.declared.binding.Binding.{Binding}
use Rattle.binding_rules.specs.declared.binding.Want.{Want}
use Rattle.binding_rules.specs.declared.settings.Edition.{Edition}
use Rattle.binding_rules.specs.declared.settings.Edition.TheVariants as edition
use Rattle.binding_rules.specs.declared.settings.Softwire.{Softwire}
use Rattle.binding_rules.specs.declared.refused.Refused.{Refused}

pub record BindingTable : Type 0 where
  pub edition : Edition
  pub softwire : Softwire
  pub bindings : List Binding

abbrev pub binding_table : Edition → Softwire → List Binding → BindingTable
binding_table e s bindings = record { edition = e; softwire = s; bindings = bindings }

-- no refusal is true of it
abbrev pub IsValid : BindingTable → Type 0
IsValid t = (r : Refused) → Applies t.edition t.softwire t.bindings r → ⊥

-- what follows, in the terms of the table
pub record IsLawful (t : BindingTable) : Type 0 where
  pub mtu6 : 1280 ≤ t.softwire.mtu6
  pub mtu4 : 576 ≤ t.softwire.mtu4
  pub hop_limit : 1 ≤ t.softwire.hop_limit
  pub few : length t.bindings ≤ 65536
  pub shapes : (at : ℕ) (x : Binding) → slice_get t.bindings at ≡ Some x → IsShape x.offset x.length
  pub psids : (at : ℕ) (x : Binding) → slice_get t.bindings at ≡ Some x → x.psid < 2 ^ x.length
  pub not_own : (at : ℕ) (x : Binding) → slice_get t.bindings at ≡ Some x → x.v4.0 ≡ t.softwire.own.0 → ⊥
  pub apart : (first second : ℕ) (x y : Binding) → first < second → slice_get t.bindings first ≡ Some x
      → slice_get t.bindings second ≡ Some y → Conflict t.edition x y → ⊥
  -- an address and a port have at most one owner, and so has a whole address
  pub at_most_one : (v4 : V4) (w : Want) → length (bound t.bindings v4 w) ≤ 1
  -- what one edition takes, edition Two takes
  pub valid_in_two : IsValid (binding_table edition.Two t.softwire t.bindings)
