-- Seats that are lent to the buffers of a run, and come back.
use Rattle.std.specs.Prelude.{ℕ, ◌+◌, ◌≡◌, ◌≤◌}
use Rattle.run_turns.specs.Words.{AreasValue, IsIdle, IsOf, SeatValue}

-- other seats joined this one: it has their shares, and counts their reads
pub record HasJoined (areas : AreasValue) (share reads : ℕ) (before now : SeatValue) : Type 0 where
  pub its_areas : IsOf areas now
  pub idle : IsIdle now.known
  pub draws : now.known.actor.draws ≡ before.known.actor.draws
  pub right : now.known.right ≡ before.known.right
  pub share_is : now.known.share ≡ before.known.share + share
  pub reads_are : before.known.reads + reads ≤ now.known.reads
