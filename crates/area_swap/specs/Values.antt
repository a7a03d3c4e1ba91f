-- What contracts see of the areas and of a seat.
use Rattle.std.specs.Prelude.{◌≡◌, ℕ, ◌+◌, ◌%◌, ◌<◌, ◌≤◌, ◌⊎◌, false, true, List, length}
use Rattle.atomic_table.specs.Seated.{TableId}
use Rattle.swap_core.specs.Plans.{Tables, width}
use Rattle.swap_core.specs.States.{newcomer}
use Rattle.swap_core.specs.Sound.{IsAtWork}
use Rattle.swap_core.specs.declared.actors.ActorState.TheVariants.{Idle, Holds}
use Rattle.swap_core.specs.declared.actors.DeskState.TheVariants.{Resting, Ready, Writing}
use Rattle.area_swap.specs.declared.board.View.{View}
use Rattle.area_swap.specs.Places.{row_place}
use Rattle.area_swap.specs.Views.{held_table, held_version, next_of, spare_of}

-- which words they are, and the tables that come into force in them
pub record AreasValue : Type 0 where
  pub table_id : TableId
  pub plan : Tables

-- which words the seat is of, and what it knows
pub record SeatValue : Type 0 where
  pub table_id : TableId
  pub known : View

-- a seat of these areas
pub record IsOf (areas : AreasValue) (seat : SeatValue) : Type 0 where
  pub same_areas : seat.table_id ≡ areas.table_id
  pub same_plan : seat.known.plan ≡ areas.plan

abbrev pub IsIdle : View → Type 0
IsIdle v = v.actor.state ≡ Idle

-- it holds a version, in that version's area
abbrev pub HoldsOne : View → Type 0
HoldsOne v = v.actor.state ≡ Holds (held_version v % 2) (held_version v)

-- it holds the version that it held, and has its share and its right to draw
pub record HoldsStill (v w : View) : Type 0 where
  pub holds : HoldsOne w
  pub version : held_version w ≡ held_version v
  pub table : held_table w ≡ held_table v
  pub share : w.share ≡ v.share
  pub right : w.right ≡ v.right

abbrev pub HasWholeShare : View → Type 0
HasWholeShare v = v.share ≡ 65536

-- it has some part of the right to draw
abbrev pub MayDraw : View → Type 0
MayDraw v = 0 < v.right

-- it has all of the right to draw: no other seat draws
abbrev pub DrawsAlone : View → Type 0
DrawsAlone v = v.right ≡ 65536

-- the four phases of the desk
abbrev pub IsResting : View → Type 0
IsResting v = v.desk ≡ Resting

abbrev pub IsReady : View → Type 0
IsReady v = v.desk ≡ Ready

abbrev pub IsClear : View → Type 0
IsClear v = v.desk ≡ Writing 0

abbrev pub IsFull : View → Type 0
IsFull v = v.desk ≡ Writing (length (next_of v))

-- what holds of a worker's seat
pub record IsWorker (v : View) : Type 0 where
  pub shared : 0 < v.share
  pub no_desk : v.has_desk ≡ false

-- between two calls it is idle, or holds this version
abbrev pub HoldsAtMost : ℕ → View → Type 0
HoldsAtMost held v = IsIdle v ⊎ (v.actor.state ≡ Holds (held % 2) held)

-- the row of this version's area begins there
abbrev pub IsRowOf : ℕ → ℕ → View → Type 0
IsRowOf held row v = row ≡ row_place (width v.plan) (held % 2)

-- So many words of the next table stand in the spare area of these words, and its row begins there.
pub record HasWritten (id : TableId) (plan : Tables) (words : List ℕ) (row count : ℕ) (v : View) : Type 0 where
  pub same_plan : v.plan ≡ plan
  pub has : v.has_desk ≡ true
  pub desk : v.desk ≡ Writing count
  pub next : words ≡ next_of v
  pub begins : row ≡ row_place (width v.plan) (spare_of v)
  pub inside : row + length words < id.words
  pub small : row + length words < 18446744073709551616

-- What holds of the desk between two calls. It is no worker; there are at most 256 tables, one for each point and one more, and
-- a next one where it is at work.
pub record IsDesk (v : View) : Type 0 where
  pub unshared : v.share ≡ 0
  pub idle : v.actor ≡ newcomer
  pub has : v.has_desk ≡ true
  pub no_reads : v.reads ≡ 0
  pub few : length v.plan.tables ≤ 256
  pub there : length v.points < length v.plan.tables
  pub next : IsAtWork v.desk → length v.points + 1 < length v.plan.tables
