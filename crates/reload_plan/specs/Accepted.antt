-- Which tables a run has, by its first table and its loads. Ours.
use Rattle.std.specs.Prelude.{ℕ, ◌+◌, ◌<◌, All, List, [], ◌∷◌, ◌++◌, length, slice_index_or}
use Rattle.swap_core.specs.Plans.{IsNotBefore, IsWindow, Tables}
use Rattle.swap_core.specs.declared.plan.Window.{Window}
use Rattle.table_words.specs.Layout.{AreCompiled}
use Rattle.reload_plan.specs.declared.loads.Load.{Load}
use Rattle.reload_plan.specs.declared.loads.Loaded.{Loaded}
use Rattle.reload_plan.specs.declared.loads.Loaded.TheVariants as loaded
use Rattle.reload_plan.specs.declared.loads.Slot.{Slot}
use Rattle.reload_plan.specs.declared.loads.Slot.TheVariants as slot

-- the words of a load that is a table
abbrev pub words_in : Loaded → List (List ℕ)
words_in (loaded.Words words) = words ∷ []
words_in (loaded.Refused cause) = []

-- its window, if it is a table
abbrev pub window_in : Window → Loaded → List Window
window_in window (loaded.Words words) = window ∷ []
window_in window (loaded.Refused cause) = []

-- those of all loads that are tables, in order
abbrev pub words_read : List Load → List (List ℕ)
words_read [] = []
words_read (load ∷ rest) = words_in load.loaded ++ words_read rest

abbrev pub windows_read : List Load → List Window
windows_read [] = []
windows_read (load ∷ rest) = window_in load.window load.loaded ++ windows_read rest

-- the first table, and then the loads that are tables
abbrev pub accepted : List ℕ → List Load → Tables
accepted first loads = record { tables = first ∷ words_read loads; windows = windows_read loads }

-- what became of a load, the version being its own if it is a table
abbrev pub slot_of : Loaded → ℕ → Slot
slot_of (loaded.Words words) version = slot.Version version
slot_of (loaded.Refused cause) version = slot.Refused cause

-- what became of loads behind so many that are tables
abbrev pub slots_from : ℕ → List Load → List Slot
slots_from before [] = []
slots_from before (load ∷ rest) = slot_of load.loaded (before + 1) ∷ slots_from (before + length (words_in load.loaded)) rest

-- the words of a table
abbrev pub IsSound : Loaded → Type 0
IsSound (loaded.Words words) = AreCompiled words
IsSound (loaded.Refused cause) = Unit {0}

-- each window may be, and none begins or ends earlier than the one before it; each load that is a table has its words
pub record AreSound (loads : List Load) : Type 0 where
  pub windows : All (λ load. IsWindow load.window) loads
  pub words : All (λ load. IsSound load.loaded) loads
  pub rising : (k : ℕ) (d : Load) → k + 1 < length loads → IsNotBefore (slice_index_or loads (k + 1) d).window (slice_index_or loads k d).window

-- the plan once the load is taken
abbrev pub after : Tables → Load → Tables
after p load = record { tables = p.tables ++ words_in load.loaded; windows = p.windows ++ window_in load.window load.loaded }
