use Rattle.std.proofs.Common.{◌+◌, ◌-◌, ◌≤◌, All, length, map, vec_capacity}
use Rattle.capture_io.specs.Records.{IsWithin, placed}
use Rattle.capture_io.specs.Taken.{AreTaken}
use Rattle.capture_io.proofs.fronts.take_records.Given as goal

abbrev pub invariant-records : goal.invariant-records
invariant-records l = record {
  taken : AreTaken l.big l.piece l.last l.at l.number l.most_bytes (map (placed l.piece) l.places.items) l.used (l.number + length l.places.items) l.bytes;
  within : All (IsWithin l.piece) l.places.items;
  room : 16384 ≤ vec_capacity l.places;
}

abbrev pub decreases-records : goal.decreases-records
decreases-records l = 16384 - length l.places.items
