-- Numbers that one seat draws for a round, while another seat comes to hold their version. All of it is ours.
use Rattle.std.specs.Prelude.{◌≡◌, ℕ, ◌+◌, ◌<◌, ◌≤◌, Option, Some, None, ◌++◌, length}
use Rattle.swap_core.specs.Plans.{Tables, limit}
use Rattle.swap_core.specs.States.{consecutive}
use Rattle.swap_core.specs.declared.actors.ActorState.TheVariants.{Idle}
use Rattle.area_swap.specs.declared.board.View.{View}
use Rattle.area_swap.specs.Rule.{Moment}
use Rattle.area_swap.specs.Values.{HoldsOne, IsIdle}
use Rattle.area_swap.specs.Views.{IsUpTo, acting, held_version}
use Rattle.worker_gate.specs.declared.drawing.Attempt.{Attempt}
use Rattle.worker_gate.specs.declared.drawing.Attempt.TheVariants as attempt
use Rattle.worker_gate.specs.declared.drawing.RoundDraw.{RoundDraw}
use Rattle.worker_gate.specs.declared.drawing.RoundDraw.TheVariants as draw
use Rattle.worker_gate.specs.Holders.{FreeValue, HeldValue}
use Rattle.worker_gate.specs.Turns.{DrawsNothing}

-- Both seats hold this version, and neither drew anything on the way.
pub record BothHold (version : ℕ) (v w drawer holder : View) : Type 0 where
  pub drawer_nothing : DrawsNothing v drawer
  pub drawer_holds : HoldsOne drawer
  pub drawer_held : held_version drawer ≡ version
  pub holder_nothing : DrawsNothing w holder
  pub holder_holds : HoldsOne holder
  pub holder_held : held_version holder ≡ version
  pub there : version < length w.plan.tables

-- Both seats are idle, and neither drew anything.
pub record NeitherHolds (v w drawer holder : View) : Type 0 where
  pub drawer_nothing : DrawsNothing v drawer
  pub drawer_idle : IsIdle drawer
  pub holder_nothing : DrawsNothing w holder
  pub holder_idle : IsIdle holder

abbrev pub HaveTried : Option ℕ → View → View → View → View → Type 0
HaveTried (Some version) v w drawer holder = BothHold version v w drawer holder
HaveTried None v w drawer holder = NeitherHolds v w drawer holder

-- The seat, which still holds its version, has drawn `count` numbers in a row from `start` on, behind its earlier draws. The version
-- was in force at that moment. If the version's limit does not cut the round, the seat has drawn all of it.
pub record HasDrawnHolding (p : Tables) (start end count : ℕ) (v w : View) : Type 0 where
  pub draws : w.actor.draws ≡ v.actor.draws ++ consecutive start count (held_version v)
  pub some_one : 1 ≤ count
  pub below_end : start + count ≤ end
  pub below_limit : start + count ≤ limit p (held_version v)
  pub whole : end ≤ limit p (held_version v) → start + count ≡ end
  pub in_force : w.seen.version ≡ held_version v
  pub later : IsUpTo v.seen w.seen
  pub same_reads : w.reads ≡ v.reads
  pub same_share : w.share ≡ v.share
  pub same_right : w.right ≡ v.right

-- No number was drawn. By the seat's last reading all numbers below `start` are drawn, and the version in force allows no record more.
pub record IsHeldBack (p : Tables) (start : ℕ) (v w : View) : Type 0 where
  pub nothing : DrawsNothing v w
  pub drawn : w.seen.records ≡ start
  pub at_limit : limit p w.seen.version ≡ start

abbrev pub HasAttempted : Attempt → Tables → ℕ → ℕ → View → View → Type 0
HasAttempted (attempt.Taken count) p start end v w = HasDrawnHolding p start end count v w
HasAttempted attempt.Nothing p start end v w = DrawsNothing v w
HasAttempted attempt.Hold p start end v w = IsHeldBack p start v w

-- The seat has drawn `count` numbers in a row from `start` on under this version, behind its earlier draws, and is idle. Before it gave
-- up its claim, the rule of the areas held and the version was in force. If the version's limit does not cut the round, the seat has
-- drawn all of it.
pub record HasDrawnRound (p : Tables) (start end count version : ℕ) (v w : View) : Type 0 where
  pub draws : w.actor.draws ≡ v.actor.draws ++ consecutive start count version
  pub some_one : 1 ≤ count
  pub below_end : start + count ≤ end
  pub below_limit : start + count ≤ limit p version
  pub whole : end ≤ limit p version → start + count ≡ end
  pub holding : View
  pub moment : Moment holding
  pub was_held : held_version holding ≡ version
  pub in_force : holding.seen.version ≡ version
  pub after : w ≡ acting holding Idle
  pub later : IsUpTo v.seen w.seen
  pub same_reads : w.reads ≡ v.reads
  pub same_share : w.share ≡ v.share
  pub same_right : w.right ≡ v.right

-- The free seat now holds a version: it drew nothing and read no word of a table.
pub record HoldsFor (free : FreeValue) (held : HeldValue) : Type 0 where
  pub same_areas : held.areas ≡ free.areas
  pub nothing : DrawsNothing free.known held.known

-- The free seat is free again: it drew nothing and read no word of a table.
pub record StaysFree (before now : FreeValue) : Type 0 where
  pub same_areas : now.areas ≡ before.areas
  pub nothing : DrawsNothing before.known now.known

abbrev pub HasDrawnFor : RoundDraw → ℕ → ℕ → FreeValue → View → View → Type 0
HasDrawnFor (draw.Taken held count) start end free v w = HasDrawnRound free.areas.plan start end count held.version v w × HoldsFor free held
HasDrawnFor (draw.Hold now) start end free v w = IsHeldBack free.areas.plan start v w × StaysFree free now
