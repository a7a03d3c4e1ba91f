-- The blocks that were taken so far.
use Rattle.std.proofs.Common.{◌-◌, ◌≤◌, All, length, map, vec_capacity}
use Rattle.capture_io.specs.Records.{IsWithin, placed}
use Rattle.pcapng_io.specs.Seen.{seen_by}
use Rattle.pcapng_io.specs.Pieces.{AreBlocks}
use Rattle.pcapng_io.proofs.pieces.take_blocks.Given as goal

abbrev pub invariant-blocks-2 : goal.invariant-blocks-2
invariant-blocks-2 l = record {
  taken : AreBlocks (seen_by l.fn.known l.fn.interfaces.items) (seen_by l.here l.interfaces.items) l.piece l.last l.number l.most_bytes
      (map (placed l.piece) l.places.items) l.used l.next l.bytes;
  within : All (IsWithin l.piece) l.places.items;
  room : 16384 ≤ vec_capacity l.places;
}

abbrev pub decreases-blocks-2 : goal.decreases-blocks-2
decreases-blocks-2 l = length l.piece - l.used
