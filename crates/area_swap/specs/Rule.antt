-- The rule: the words and the views of the seats show a sound state of the machine.
use Rattle.std.specs.Prelude.{◌≡◌, ℕ, ◌+◌, ◌<◌, ◌≤◌, ◌⊎◌, true, List, [], length, map, slice_index, slice_index_or, sum_by, All}
use mathlib.Core.Option.{some}
use lib.ListN.{get_elem?}
use Rattle.atomic_table.specs.Table.{State}
use Rattle.swap_core.specs.Plans.{Tables, IsPlan, width, limit, window}
use Rattle.swap_core.specs.States.{CoreState, newcomer}
use Rattle.swap_core.specs.Sound.{Sound, IsAtWork, times, once_below}
use Rattle.swap_core.specs.declared.actors.Actor.{Actor}
use Rattle.swap_core.specs.declared.actors.ActorState.TheVariants.{Holds}
use Rattle.swap_core.specs.declared.actors.DeskState.{DeskState}
use Rattle.area_swap.specs.declared.answers.Seen.{Seen}
use Rattle.area_swap.specs.declared.board.View.{View}
use Rattle.area_swap.specs.Places.{version_place, claims_place, row_place, all_places}
use Rattle.area_swap.specs.Views.{packed, now_of, spare_of, IsUpTo, IsSeated}

-- What the words are: the version word, the claims on area 0 and on area 1, the rows of the two areas.
pub record Laid (words : List ℕ) (long : ℕ) (now : Seen) (counts : List ℕ) (areas : List (List ℕ)) : Type 0 where
  pub size : length words ≡ all_places long
  pub first : slice_index words version_place ≡ packed now
  pub claims : (a : ℕ) → a < 2 → slice_index words (claims_place a) ≡ slice_index counts a
  pub rows : (a j : ℕ) → a < 2 → j < long → slice_index words (row_place long a + j) ≡ slice_index (slice_index_or areas a []) j

abbrev pub ShowsWords : List ℕ → CoreState → Type 0
ShowsWords words c = Laid words (width c.plan) (now_of c) c.counts c.areas

abbrev pub actor_of : View → Actor
actor_of v = v.actor

abbrev pub share_of : View → ℕ
share_of v = v.share

abbrev pub right_of : View → ℕ
right_of v = v.right

-- one seat has the desk, and its view has the desk's state and the points
pub record ShowsDesk (views : List View) (state : DeskState) (points : List ℕ) : Type 0 where
  pub seat : ℕ
  pub view : View
  pub sits : get_elem? views seat ≡ some view
  pub has : view.has_desk ≡ true
  pub alone : (i : ℕ) (v : View) → get_elem? views i ≡ some v → v.has_desk ≡ true → i ≡ seat
  pub same_state : view.desk ≡ state
  pub same_points : view.points ≡ points

-- What holds of each view. All seats in use know the plan. A view without a share has claimed nothing and drawn nothing:
-- it is the desk's, or that of a seat that was joined into another. A view without a right to draw has drawn nothing. What was
-- seen last, and before that, is no later than what is.
pub record IsLawfulView (plan : Tables) (now : Seen) (v : View) : Type 0 where
  pub same_plan : IsSeated v → v.plan ≡ plan
  pub unshared : v.share ≡ 0 → v.actor ≡ newcomer
  pub rightless : v.share ≡ 0 → v.right ≡ 0
  pub undrawn : v.right ≡ 0 → v.actor.draws ≡ []
  pub seen : IsUpTo v.seen now
  pub prior : IsUpTo v.prior v.seen

-- The words and views show a state of the machine, which is sound: each view is an actor, and one of them the desk's. All
-- shares add up to 65,536, and so do all parts of the right to draw. A count of claims cannot wrap, since each claim is that of
-- a seat with a share. At the opening everything that the first seat knows is 0 (`first_view`). Of the words it says nothing
-- about reads, looks and counts: these numbers are tied to the records of specs/SeatSteps alone.
pub record Ruled (p : Tables) (s : State Unit View) : Type 0 where
  pub core : CoreState
  pub sound : Sound core
  pub same_plan : core.plan ≡ p
  pub words : ShowsWords s.words core
  pub actors : map actor_of s.views ≡ core.actors
  pub desk : ShowsDesk s.views core.desk core.points
  pub shares : sum_by share_of s.views ≡ 65536
  pub rights : sum_by right_of s.views ≡ 65536
  pub each : (i : ℕ) (v : View) → get_elem? s.views i ≡ some v → IsLawfulView p (now_of core) v

-- A moment at which the rule held and a seat had this view.
pub record Moment (v : View) : Type 0 where
  pub board : State Unit View
  pub ruled : Ruled v.plan board
  pub seat : ℕ
  pub sits : get_elem? board.views seat ≡ some v

-- a draw from before this reading
abbrev pub IsDrawnBy : Seen → ℕ × ℕ → Type 0
IsDrawnBy now d = (d.0 < now.records) × (d.1 ≤ now.version)

-- What one reading of the version word tells the seat with this view.
pub record Sees (v : View) (now : Seen) : Type 0 where
  -- It is the word of a moment at which the rule held.
  pub moment : Moment v
  pub word : slice_index moment.board.words version_place ≡ packed now
  pub later : IsUpTo v.seen now
  pub drawn : All (IsDrawnBy now) v.actor.draws
  -- Who has the whole share has drawn all numbers, each once.
  pub all_drawn : v.share ≡ 65536 → length v.actor.draws ≡ now.records
  pub each_once : v.share ≡ 65536 → (number : ℕ) → times number v.actor ≡ once_below number now.records
  -- So has a seat with all of the right to draw, whatever other seats hold. The whole share includes that right.
  pub drew_all : v.right ≡ 65536 → length v.actor.draws ≡ now.records
  pub drew_each : v.right ≡ 65536 → (number : ℕ) → times number v.actor ≡ once_below number now.records
  pub whole_right : v.share ≡ 65536 → v.right ≡ 65536
  pub planned : IsPlan v.plan
  pub there : now.version < length v.plan.tables
  pub within : now.records ≤ limit v.plan now.version
  -- A held version is in force, or was before.
  pub held : (a w : ℕ) → v.actor.state ≡ Holds a w → (w ≡ now.version) ⊎ (w + 1 ≡ now.version)
  -- Only the desk changes the version, so it knows it.
  pub pointed : v.has_desk ≡ true → length v.points ≡ now.version
  -- While the desk is at work there is a next table, and its window is reached.
  pub next : v.has_desk ≡ true → IsAtWork v.desk
      → (now.version + 1 < length v.plan.tables) × ((window v.plan (now.version + 1)).earliest ≤ now.records)
  pub few : now.version < 256
  pub small : now.records ≤ 2147483648

-- What one reading of the claims on the spare area tells the desk with this view: so many there were at a moment at which
-- the rule held.
pub record SeesClaims (v : View) (count : ℕ) : Type 0 where
  pub moment : Moment v
  pub word : slice_index moment.board.words (claims_place (spare_of v)) ≡ count
