-- What the reloader leaves of the desk, and when what is due is in force. All of it is ours.
use Rattle.std.specs.Prelude.{◌≡◌, ℕ, ◌+◌, ◌-◌, ◌<◌, ◌≤◌, ◌⊎◌, List, ◌++◌, All, length, get_or}
use Rattle.swap_core.specs.Plans.{limit, window}
use Rattle.area_swap.specs.declared.board.View.{View}
use Rattle.area_swap.specs.Rule.{IsDrawnBy}
use Rattle.area_swap.specs.Values.{AreasValue, SeatValue, HasWholeShare, IsOf, IsReady, IsResting}

-- the desk of these areas between two tables
pub record CanReload (areas : AreasValue) (desk : SeatValue) : Type 0 where
  pub its_areas : IsOf areas desk
  pub phase : IsResting desk.known ⊎ IsReady desk.known

-- the desk has so many points more, behind those that it had
pub record HasMorePoints (count : ℕ) (before after : View) : Type 0 where
  pub news : List ℕ
  pub points : after.points ≡ before.points ++ news
  pub many : length news ≡ count
  pub same_plan : after.plan ≡ before.plan

-- the desk's points begin with those that it had
pub record KeepsPoints (before after : View) : Type 0 where
  pub news : List ℕ
  pub points : after.points ≡ before.points ++ news
  pub same_plan : after.plan ≡ before.plan

-- no table came into force, and the desk looked and counted as often, or more often
pub record HasTurns (before after : View) : Type 0 where
  pub points : after.points ≡ before.points
  pub same_plan : after.plan ≡ before.plan
  pub looks : before.looks ≤ after.looks
  pub counts : before.counts ≤ after.counts

abbrev pub NoneIsLeft : View → Type 0
NoneIsLeft v = length v.plan.tables ≤ length v.points + 1

-- there is a next table, and it waits for more records than these
abbrev pub WaitsFor : View → ℕ → Type 0
WaitsFor v records =
    (length v.points + 1 < length v.plan.tables) × (records < (window v.plan (length v.points + 1)).earliest)

-- The four ends of a reloader: no table is left; the end is reached before the next table's window; it looked for a million turns
-- in a row, and the window was not reached; it counted for a million turns in a row, and somebody claimed the spare area.
pub record HasNoneLeft (v : View) : Type 0 where
  pub none : NoneIsLeft v
  pub rests : IsResting v

pub record HasReachedEnd (end : ℕ) (before v : View) : Type 0 where
  pub rests : IsResting v
  pub looked : before.looks < v.looks
  pub reached : end ≤ v.seen.records
  pub waits : WaitsFor v v.seen.records

pub record HasLookedLong (before v : View) : Type 0 where
  pub rests : IsResting v
  pub looked : before.looks + 1000000 ≤ v.looks
  pub waits : WaitsFor v v.seen.records

pub record HasCountedLong (before v : View) : Type 0 where
  pub ready : IsReady v
  pub claimed : 1 ≤ v.counted
  pub counted : before.counts + 1000000 ≤ v.counts

abbrev pub IsReloaded : ℕ → View → View → Type 0
IsReloaded end before v = HasNoneLeft v ⊎ (HasReachedEnd end before v ⊎ (HasLookedLong before v ⊎ HasCountedLong before v))

-- Why a single try put no table into force: by a reading of this try, the next table waits for more records; or, by a count of this
-- try, somebody claimed the spare area.
pub record HasLooked (before v : View) : Type 0 where
  pub rests : IsResting v
  pub looked : before.looks < v.looks
  pub waits : WaitsFor v v.seen.records

pub record HasCounted (before v : View) : Type 0 where
  pub ready : IsReady v
  pub claimed : 1 ≤ v.counted
  pub counted : before.counts < v.counts

abbrev pub IsPutOff : View → View → Type 0
IsPutOff before v = HasNoneLeft v ⊎ (HasLooked before v ⊎ HasCounted before v)

-- There is a next table, and its window opens at this number of records or behind it.
pub record OpensBehind (end : ℕ) (v : View) : Type 0 where
  pub rests : IsResting v
  pub next : length v.points + 1 < length v.plan.tables
  pub opens : end ≤ (window v.plan (length v.points + 1)).earliest

-- The table in force came where the version before it allowed no record more, and no record was drawn under it at this reading: all
-- seats may have stopped.
pub record StandsAtLimit (v : View) (records : ℕ) : Type 0 where
  pub came : 0 < length v.points
  pub point : get_or v.points (length v.points - 1) 0 ≡ records
  pub allowed : limit v.plan (length v.points - 1) ≡ records

pub record HasStood (v : View) : Type 0 where
  pub rests : IsResting v
  pub stands : StandsAtLimit v v.seen.records

-- The ends of a reloader beside workers that draw records below the end: no table is left; the next window does not open before the
-- end; all workers may have stopped; it looked for a million turns in a row, or counted.
abbrev pub IsOver : ℕ → View → View → Type 0
IsOver end before v = HasNoneLeft v ⊎ (OpensBehind end v ⊎ (HasStood v ⊎ (HasLookedLong before v ⊎ HasCountedLong before v)))

-- What is due is in force, by the last reading of the seat, which is later than all its draws.
pub record IsSettled (seat desk : View) : Type 0 where
  pub rests : IsResting desk
  pub drawn : All (IsDrawnBy seat.seen) seat.actor.draws
  pub version : seat.seen.version ≡ length desk.points
  pub none_due : NoneIsLeft desk ⊎ WaitsFor desk seat.seen.records
  pub all_drawn : HasWholeShare seat → length seat.actor.draws ≡ seat.seen.records
