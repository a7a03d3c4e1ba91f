-- What one try to hold a table, or to draw, leaves of a seat. All of it is ours.
use Rattle.std.specs.Prelude.{◌≡◌, ℕ, ◌+◌, ◌<◌, ◌≤◌, ◌++◌, Option, Some, None, All, length}
use Rattle.swap_core.specs.States.{consecutive}
use Rattle.area_swap.specs.declared.board.View.{View}
use Rattle.area_swap.specs.Rule.{IsDrawnBy}
use Rattle.area_swap.specs.Values.{HoldsOne, IsIdle}
use Rattle.area_swap.specs.Views.{IsUpTo, held_version}
use Rattle.worker_gate.specs.declared.claims.Turn.{Turn}
use Rattle.worker_gate.specs.declared.claims.Turn.TheVariants as turn
use Rattle.worker_gate.specs.declared.outcomes.Stop.{Stop}
use Rattle.worker_gate.specs.Serving.{HasEnded}

-- nothing was drawn and no word read; the version word may have been
pub record DrawsNothing (v w : View) : Type 0 where
  pub draws : w.actor.draws ≡ v.actor.draws
  pub later : IsUpTo v.seen w.seen
  pub same_reads : w.reads ≡ v.reads
  pub same_share : w.share ≡ v.share
  pub same_right : w.right ≡ v.right

pub record HasHeld (version : ℕ) (v w : View) : Type 0 where
  pub nothing : DrawsNothing v w
  pub holds : HoldsOne w
  pub held : held_version w ≡ version
  pub there : version < length v.plan.tables

pub record HasStayedIdle (v w : View) : Type 0 where
  pub nothing : DrawsNothing v w
  pub idle : IsIdle w

abbrev pub HasTried : Option ℕ → View → View → Type 0
HasTried (Some version) v w = HasHeld version v w
HasTried None v w = HasStayedIdle v w

-- so many numbers in a row are the seat's, above those of its earlier draws
pub record HasTakenRun (end first count : ℕ) (v w : View) : Type 0 where
  pub draws : w.actor.draws ≡ v.actor.draws ++ consecutive first count (held_version v)
  pub some_one : 1 ≤ count
  pub below_end : first + count ≤ end
  pub is_next : w.seen.records ≡ first
  pub drawn : All (IsDrawnBy w.seen) v.actor.draws
  pub later : IsUpTo v.seen w.seen
  pub same_reads : w.reads ≡ v.reads
  pub same_right : w.right ≡ v.right

pub record HasStoppedNow (why : Stop) (end : ℕ) (v w : View) : Type 0 where
  pub nothing : DrawsNothing v w
  pub ended : HasEnded why end w
  pub in_force : held_version w ≡ w.seen.version

abbrev pub HasTurned : Turn → ℕ → View → View → Type 0
HasTurned (turn.Run first count) end v w = HasTakenRun end first count v w
HasTurned turn.Lost end v w = DrawsNothing v w
HasTurned turn.Moved end v w = DrawsNothing v w
HasTurned (turn.Stop why) end v w = HasStoppedNow why end v w
