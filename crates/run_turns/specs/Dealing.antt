-- Who draws the numbers of rounds and puts the next tables into force, and what that leaves.
use Rattle.std.specs.Prelude.{length, ℕ, ◌++◌, ◌+◌, ◌<◌, ◌≡◌, ◌≤◌}
use Rattle.run_turns.specs.Words.{CanReload, DrawsAlone, HeldValue, IsIdle, IsOf, KeepsPoints, consecutive}
use Rattle.run_turns.specs.declared.dealing.Dealer.{Dealer}
use Rattle.worker_gate.specs.Holders.{FreeValue}

-- It draws alone, has drawn all numbers below this one, and may put the next table into force.
pub record CanDeal (number : ℕ) (d : Dealer) : Type 0 where
  pub seat_areas : IsOf d.areas.now d.seat
  pub idle : IsIdle d.seat.known
  pub alone : DrawsAlone d.seat.known
  pub drawn : length d.seat.known.actor.draws ≡ number
  pub desk : CanReload d.areas.now d.desk

-- Nobody else's share or count of reads changes.
pub record IsDealt (start end count : ℕ) (free : FreeValue) (held : HeldValue) (before now : Dealer) : Type 0 where
  pub same_areas : now.areas ≡ before.areas
  pub its_areas : held.areas ≡ free.areas
  pub some_one : 1 ≤ count
  pub below_end : start + count ≤ end
  pub draws : now.seat.known.actor.draws ≡ before.seat.known.actor.draws ++ consecutive start count held.version
  pub points : KeepsPoints before.desk.known now.desk.known
  pub version : held.version ≤ length now.desk.known.points
  pub there : length now.desk.known.points < length now.areas.now.plan.tables
  pub share : now.seat.known.share ≡ before.seat.known.share
  pub reads : now.seat.known.reads ≡ before.seat.known.reads
  pub held_share : held.known.share ≡ free.known.share
  pub held_reads : held.known.reads ≡ free.known.reads
