-- The lines of the tables of a run, in the order of the command words. All of it is ours.
use Rattle.std.specs.Prelude.{◌≡◌, ◌⊎◌, ℕ, ◌-◌, ◌<◌, ◌≤◌, List, [], ◌∷◌, ◌++◌, take, drop, flat_map, Option, Some, None, slice_get}
use Rattle.aftr_text.specs.Lines.{initial_text, point_text, refused_load_text, unreached_text}
use Rattle.aftr_text.specs.declared.jobs.LoadWords.{LoadWords}
use Rattle.reload_plan.specs.declared.loads.Slot.{Slot}
use Rattle.reload_plan.specs.declared.loads.Slot.TheVariants as slot

-- a load by the name of its file, and what became of it
pub record NamedSlot : Type 0 where
  pub name : List ℕ
  pub slot : Slot

-- the loads, each with what became of it
abbrev pub named : List LoadWords → List Slot → List NamedSlot
named (l ∷ ls) (s ∷ ss) = (record { name = l.name; slot = s }) ∷ named ls ss
named _ _ = []

-- the line of a table by the moment when it came into force, if it did
abbrev pub version_text : List ℕ → ℕ → Option ℕ → List ℕ
version_text name version (Some point) = point_text version name point
version_text name version None = unreached_text name

-- the moment when a table came into force; point k is that of the version k + 1
abbrev pub point_of : List ℕ → ℕ → Option ℕ
point_of points version = slice_get points (version - 1)

abbrev pub slot_text : List ℕ → List ℕ → Slot → List ℕ
slot_text points name (slot.Version version) = version_text name version (point_of points version)
slot_text points name (slot.Refused cause) = refused_load_text name cause

-- the lines of loads, by the points of the run
abbrev pub load_lines : List ℕ → List NamedSlot → List ℕ
load_lines points loads = flat_map (λ load. slot_text points load.name load.slot) loads

-- the line of the first table, and one for each load
abbrev pub versions_of : List ℕ → List NamedSlot → List ℕ → List ℕ
versions_of table loads points = initial_text table ++ load_lines points loads

-- the loads from one place on, and before another
abbrev pub between : ℕ → ℕ → List NamedSlot → List NamedSlot
between from to loads = take (to - from) (drop from loads)

-- of the loads that are left, the first one that is a table is not in force
abbrev pub NoneIsDue : List ℕ → List Slot → Type 0
NoneIsDue points [] = Unit {0}
NoneIsDue points (slot.Version version ∷ rest) = point_of points version ≡ None
NoneIsDue points (slot.Refused cause ∷ rest) = NoneIsDue points rest

-- the load at this place is a table in force
pub record IsInForce (points : List ℕ) (slots : List Slot) (place : ℕ) : Type 0 where
  pub version : ℕ
  pub slot_is : slice_get slots place ≡ Some (slot.Version version)
  pub point : ℕ
  pub point_is : point_of points version ≡ Some point

-- the lines end behind a table in force, or there are none
abbrev pub EndsInForce : List ℕ → List Slot → ℕ → ℕ → Type 0
EndsInForce points slots from to = (to ≡ from) ⊎ ((from < to) × IsInForce points slots (to - 1))

-- A load that is told: it is refused, or in force. No public contract cites this.
abbrev pub IsTold : List ℕ → Slot → Type 0
IsTold points (slot.Refused cause) = Unit {0}
IsTold points (slot.Version version) = (point : ℕ) × (point_of points version ≡ Some point)

abbrev pub AreTold : List ℕ → List Slot → ℕ → ℕ → Type 0
AreTold points slots from to = (k : ℕ) (s : Slot) → from ≤ k → k < to → slice_get slots k ≡ Some s → IsTold points s
