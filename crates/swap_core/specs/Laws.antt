-- What follows for whoever uses the machine.
use Rattle.std.specs.Prelude.{◌≡◌, ℕ, ◌+◌, ◌<◌, ◌≤◌, ◌⊎◌, List, ◌≢◌, All, slice_index, length, replicate, sum_by}
use Rattle.swap_core.specs.Plans.{Tables, AreAlike, IsPlan, table, limit, stale, window}
use Rattle.swap_core.specs.Points.{in_force, AreInWindows, AreAllPoints}
use Rattle.swap_core.specs.States.{CoreState, IsActor, area, spare, next_table, opening, with_desk, several_drawn, joined_by_newcomer, merged}
use Rattle.swap_core.specs.Transitions.{after, after_all, yes}
use Rattle.swap_core.specs.Sound.{Sound, IsWriting, times}
use Rattle.swap_core.specs.declared.actors.Actor.{Actor}
use Rattle.swap_core.specs.declared.actors.ActorState.TheVariants.{Idle, Holds}
use Rattle.swap_core.specs.declared.actors.DeskState.TheVariants.{Writing}
use Rattle.swap_core.specs.declared.steps.Step.{Step}
use Rattle.swap_core.specs.declared.steps.Step.TheVariants as step

-- who holds version w reads the words of table w, each place of it
abbrev pub ReadsItsTable : CoreState → Type 0
ReadsItsTable c =
    (who a w place : ℕ) (x : Actor) → IsActor c who x → x.state ≡ Holds a w → place < length (table c.plan w)
    → after c (step.Read who place) ≡ yes c (slice_index (table c.plan w) place)

-- The area that is written is the spare one, which nobody holds: while the desk writes, who holds an area holds the other.
pub record WritesWhereNobodyHolds (c : CoreState) : Type 0 where
  pub unheld : (who a w : ℕ) (x : Actor) → IsWriting c.desk → IsActor c who x → x.state ≡ Holds a w → a ≢ spare c
  -- No other area changes.
  pub others : (a : ℕ) → a ≢ spare c → area (after c step.Write).core a ≡ area c a

-- all actors together have drawn no number twice
abbrev pub NoneTwice : CoreState → Type 0
NoneTwice c = (number : ℕ) → sum_by (times number) c.actors ≤ 1

-- each draw has the version that the points put in force at its number
abbrev pub DrawnInForce : CoreState → Type 0
DrawnInForce c = (who : ℕ) (x : Actor) → IsActor c who x → All (λ (d : ℕ × ℕ). d.1 ≡ in_force c.points d.0) x.draws

-- So many draws, one after another, by an actor that holds the version in force, with room for all below its limit: each is
-- taken, and together they give the actor so many numbers in a row.
abbrev pub SeveralDrawsAreSteps : Type 0
SeveralDrawsAreSteps =
    (c : CoreState) (who count a : ℕ) (x : Actor) → IsActor c who x → x.state ≡ Holds a c.version
    → c.records + count ≤ limit c.plan c.version
    → after_all c (replicate count (step.Draw who)) ≡ several_drawn c who x count

-- So many writes of words that stand there already, one after another: each is taken, and together they change no word.
abbrev pub StandingWordsAreWrites : Type 0
StandingWordsAreWrites =
    (c : CoreState) (from count : ℕ) → Sound c → c.desk ≡ Writing from → from + count ≤ length (next_table c)
    → AreAlike (stale c.plan c.version) (next_table c) from (from + count)
    → after_all c (replicate count step.Write) ≡ with_desk c (Writing (from + count))

-- a step of any kind leaves a sound state sound
abbrev pub StepsKeepSound : Type 0
StepsKeepSound = (c : CoreState) (s : Step) → Sound c → Sound (after c s).core

-- whatever is done from the opening, the state is sound
abbrev pub RunsAreSound : Type 0
RunsAreSound =
    (plan : Tables) (actors : ℕ) (steps : List Step) → IsPlan plan → Sound (after_all (opening plan actors) steps)

abbrev pub NewcomerKeepsSound : Type 0
NewcomerKeepsSound = (c : CoreState) → Sound c → Sound (joined_by_newcomer c)

-- two idle actors: the draws of one move behind those of the other
abbrev pub MergeKeepsSound : Type 0
MergeKeepsSound =
    (c : CoreState) (into from : ℕ) (x y : Actor) → Sound c → into ≢ from
    → IsActor c into x → x.state ≡ Idle → IsActor c from y → y.state ≡ Idle → Sound (merged c into x from y)

-- Where no table is left, or fewer records were drawn than the next one waits for, there is a point for each window that is
-- reached, and no other.
abbrev pub SettledPointsAreAll : Type 0
SettledPointsAreAll =
    (p : Tables) (points : List ℕ) (records : ℕ) → IsPlan p → length points < length p.tables → AreInWindows p.windows points records
    → (length p.tables ≤ length points + 1) ⊎ (records < (window p (length points + 1)).earliest)
    → AreAllPoints p.windows points records
