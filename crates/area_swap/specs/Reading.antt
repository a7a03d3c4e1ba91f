-- What any number of reads of a held table leaves of the seat.
use Rattle.std.specs.Prelude.{◌≡◌, ◌≤◌}
use Rattle.area_swap.specs.Values.{SeatValue}

-- some words were read, and nothing else changed
pub record OnlyReads (before after : SeatValue) : Type 0 where
  pub rest : after ≡ record before { known = record before.known { reads = after.known.reads } }
  pub rises : before.known.reads ≤ after.known.reads
