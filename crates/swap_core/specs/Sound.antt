-- What holds of the state of the machine at any moment.
use Rattle.std.specs.Prelude.{◌≡◌, ℕ, ◌+◌, ◌%◌, ◌<◌, ◌≤◌, ◌⊎◌, Bool, false, cond, ◌==◌, nat_lt, List, length, slice_index, All, sum_by, count_by}
use Rattle.swap_core.specs.Plans.{IsPlan, table, stale, width, limit, window}
pub use Rattle.swap_core.specs.Points.{in_force}
use Rattle.swap_core.specs.Points.{AreInWindows}
use Rattle.swap_core.specs.States.{CoreState, IsActor, count_of, area, spare, next_table}
use Rattle.swap_core.specs.declared.actors.Actor.{Actor}
use Rattle.swap_core.specs.declared.actors.ActorState.{ActorState}
use Rattle.swap_core.specs.declared.actors.ActorState.TheVariants.{Asks, Holds}
use Rattle.swap_core.specs.declared.actors.DeskState.{DeskState}
use Rattle.swap_core.specs.declared.actors.DeskState.TheVariants.{Resting, Writing}

-- the actor asks for area a, or holds it
abbrev pub claims : ℕ → ActorState → Bool
claims a (Asks b) = b == a
claims a (Holds b w) = b == a
claims a _ = false

abbrev pub HasClaimed : ℕ → ActorState → Type 0
HasClaimed a s = (s ≡ Asks a) ⊎ ((w : ℕ) × (s ≡ Holds a w))

-- how many actors ask for area a or hold it
abbrev pub claimants : ℕ → List Actor → ℕ
claimants a actors = count_by (λ (x : Actor). claims a x.state) actors

-- a row begins with the first n of these words
abbrev pub BeginsWith : ℕ → List ℕ → List ℕ → Type 0
BeginsWith n words row = (j : ℕ) → j < n → slice_index row j ≡ slice_index words j

abbrev pub Begins : List ℕ → List ℕ → Type 0
Begins words row = BeginsWith (length words) words row

abbrev pub IsWriting : DeskState → Type 0
IsWriting (Writing j) = Unit {0}
IsWriting _ = ⊥

abbrev pub IsAtWork : DeskState → Type 0
IsAtWork Resting = ⊥
IsAtWork _ = Unit {0}

-- how many words of the next table stand in the spare area
abbrev pub words_written : DeskState → ℕ
words_written (Writing j) = j
words_written _ = 0

-- a version is held in its own area, and is in force, or was last and nobody writes over it
abbrev pub HoldsRightly : CoreState → ActorState → Type 0
HoldsRightly c (Holds a w) = (a ≡ w % 2) × ((w ≡ c.version) ⊎ ((w + 1 ≡ c.version) × (IsWriting c.desk → ⊥)))
HoldsRightly c (Asks a) = a < 2
HoldsRightly c _ = Unit {0}

-- how often the actor has drawn the number
abbrev pub times : ℕ → Actor → ℕ
times number x = count_by (λ (d : ℕ × ℕ). d.0 == number) x.draws

abbrev pub draw_count : Actor → ℕ
draw_count x = length x.draws

abbrev pub once_below : ℕ → ℕ → ℕ
once_below number records = cond (nat_lt number records) 1 0

-- the number was drawn, and the version is the one in force at it
abbrev pub IsDrawRight : CoreState → ℕ × ℕ → Type 0
IsDrawRight c d = (d.0 < c.records) × (d.1 ≡ in_force c.points d.0)

pub record Sound (c : CoreState) : Type 0 where
  -- The plan is one, and has the table in force.
  pub planned : IsPlan c.plan
  pub there : c.version < length c.plan.tables
  -- There are two counts and two areas, each as long as the longest table.
  pub two_counts : length c.counts ≡ 2
  pub two_areas : length c.areas ≡ 2
  pub rows : (a : ℕ) → a < 2 → length (area c a) ≡ width c.plan
  -- The count of an area is the number of actors that ask for it or hold it.
  pub counted : (a : ℕ) → a < 2 → count_of c a ≡ claimants a c.actors
  -- The area of the version in force begins with its table.
  pub current : Begins (table c.plan c.version) (area c (c.version % 2))
  -- While the desk writes, the spare area begins with the words written so far of the next table.
  pub writing : (j : ℕ) → c.desk ≡ Writing j → (j ≤ length (next_table c)) × BeginsWith j (next_table c) (area c (spare c))
  -- Behind them it has still the words of the table that was in force before, or zeros where none was.
  pub left : (j : ℕ) → words_written c.desk ≤ j → j < length (stale c.plan c.version)
      → slice_index (area c (spare c)) j ≡ slice_index (stale c.plan c.version) j
  -- Who holds a version holds its own area; the version is in force, or was before it and nobody writes over it.
  pub held : (who : ℕ) (x : Actor) → IsActor c who x → HoldsRightly c x.state
  -- While the desk is at work there is a next table, and the records drawn have reached its window.
  pub next : IsAtWork c.desk → (c.version + 1 < length c.plan.tables) × ((window c.plan (c.version + 1)).earliest ≤ c.records)
  -- There is a point for each version after the first; they never fall, none is above the records drawn, and each is in
  -- its window.
  pub pointed : length c.points ≡ c.version
  pub placed : AreInWindows c.plan.windows c.points c.records
  -- The actors have drawn each number below the records drawn once, and no other, so as many as there are.
  pub each_once : (number : ℕ) → sum_by (times number) c.actors ≡ once_below number c.records
  pub all_drawn : sum_by draw_count c.actors ≡ c.records
  -- Each draw names the version in force at its number.
  pub under : (who : ℕ) (x : Actor) → IsActor c who x → All (IsDrawRight c) x.draws
  -- No more records were drawn than the version in force allows.
  pub within : c.records ≤ limit c.plan c.version
