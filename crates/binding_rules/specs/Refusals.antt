-- What settings and bindings are refused for, by the places of bindings and their values alone, and which refusal comes
-- first.
use Rattle.std.specs.Prelude.{◌≡◌, ℕ, ◌^◌, ◌<◌, ◌≤◌, ◌⊎◌, List, length, slice_get, Some}
use Rattle.port_set.specs.Shapes.{IsNoShape}
use Rattle.binding_rules.specs.Conflicts.{HaveCommonPort, AreMixed}
use Rattle.binding_rules.specs.declared.binding.Binding.{Binding}
use Rattle.binding_rules.specs.declared.settings.Edition.{Edition}
use Rattle.binding_rules.specs.declared.settings.Softwire.{Softwire}
use Rattle.binding_rules.specs.declared.refused.Refused.{Refused}
use Rattle.binding_rules.specs.declared.refused.Refused.TheVariants as refused
use Rattle.binding_rules.specs.declared.refused.TableError.{TableError}
use Rattle.binding_rules.specs.declared.refused.TableError.TheVariants as table_error

-- a binding stands at the place, and P is true of it
abbrev pub At : List Binding → ℕ → (Binding → Type 0) → Type 0
At bindings place P = (x : Binding) × (slice_get bindings place ≡ Some x) × P x

-- the first place is before the second, and P is true of the bindings there
pub record AtBoth (bindings : List Binding) (first second : ℕ) (P : Binding → Binding → Type 0) : Type 0 where
  pub ordered : first < second
  pub there : At bindings first (λ x. At bindings second (λ y. P x y))

-- two bindings of one address
pub record IsMixed (e : Edition) (x y : Binding) : Type 0 where
  pub address : x.v4.0 ≡ y.v4.0
  pub mixed : AreMixed e x y

pub record IsTwice (e : Edition) (x y : Binding) : Type 0 where
  pub address : x.v4.0 ≡ y.v4.0
  pub allowed : AreMixed e x y → ⊥
  pub common : HaveCommonPort x y

-- the refusal is true of these settings and bindings
abbrev pub Applies : Edition → Softwire → List Binding → Refused → Type 0
Applies e s bindings refused.Mtu = (s.mtu6 < 1280) ⊎ (s.mtu4 < 576)
Applies e s bindings refused.Hop = s.hop_limit ≡ 0
Applies e s bindings (refused.TooMany count) = (count ≡ length bindings) × (65536 < length bindings)
Applies e s bindings (refused.Shape place) = At bindings place (λ x. IsNoShape x.offset x.length)
Applies e s bindings (refused.Psid place) = At bindings place (λ x. 2 ^ x.length ≤ x.psid)
Applies e s bindings (refused.OwnAddress place) = At bindings place (λ x. x.v4.0 ≡ s.own.0)
Applies e s bindings (refused.MixedShape first second) = AtBoth bindings first second (IsMixed e)
Applies e s bindings (refused.Twice first second) = AtBoth bindings first second (IsTwice e)

-- when a refusal is asked for: by its stage, then by the place, then by the step at that place
pub record Turn : Type 0 where
  pub stage : ℕ
  pub place : ℕ
  pub step : ℕ

abbrev pub turn : Refused → Turn
turn refused.Mtu = record { stage = 0; place = 0; step = 0 }
turn refused.Hop = record { stage = 1; place = 0; step = 0 }
turn (refused.TooMany count) = record { stage = 2; place = 0; step = 0 }
turn (refused.Shape place) = record { stage = 3; place = place; step = 0 }
turn (refused.Psid place) = record { stage = 3; place = place; step = 1 }
turn (refused.OwnAddress place) = record { stage = 3; place = place; step = 2 }
turn (refused.MixedShape first second) = record { stage = 4; place = second; step = first }
turn (refused.Twice first second) = record { stage = 4; place = second; step = first }

abbrev pub IsEarlier : Turn → Turn → Type 0
IsEarlier t u = (t.stage < u.stage)
    ⊎ ((t.stage ≡ u.stage) × ((t.place < u.place) ⊎ ((t.place ≡ u.place) × (t.step < u.step))))

-- it is true, and none that is true has an earlier turn
pub record IsFirstRefusal (e : Edition) (s : Softwire) (bindings : List Binding) (r : Refused) : Type 0 where
  pub applies : Applies e s bindings r
  pub first : (q : Refused) → Applies e s bindings q → IsEarlier (turn q) (turn r) → ⊥

-- an error other than want of memory is the first true refusal
abbrev pub IsCause : Edition → Softwire → List Binding → TableError → Type 0
IsCause e s bindings (table_error.Refused r) = IsFirstRefusal e s bindings r
IsCause e s bindings table_error.OutOfMemory = Unit {0}

-- the refusals in the order of their declaration, from 1
abbrev pub refusal_number : Refused → ℕ
refusal_number (refused.TooMany count) = 1
refusal_number (refused.Shape place) = 2
refusal_number (refused.Psid place) = 3
refusal_number (refused.MixedShape first second) = 4
refusal_number (refused.Twice first second) = 5
refusal_number (refused.OwnAddress place) = 6
refusal_number refused.Mtu = 7
refusal_number refused.Hop = 8
