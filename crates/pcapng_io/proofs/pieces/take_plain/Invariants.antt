-- The packets that were taken so far.
use Rattle.std.proofs.Common.{ℕ, ◌+◌, ◌-◌, ◌^◌, ◌<◌, ◌≤◌, Bool, All, length, map, vec_capacity}
use Rattle.capture_io.specs.Records.{IsWithin, placed}
use Rattle.pcapng_io.specs.Seen.{Seen, seen_by}
use Rattle.pcapng_io.specs.Pieces.{AreBlocks}
use Rattle.pcapng_io.proofs.PieceLemmas.{known_by, number_further}
use Rattle.pcapng_io.proofs.pieces.take_plain.Given as goal

abbrev pub invariant-packets : goal.invariant-packets
invariant-packets l = record {
  taken : (old : Seen) (last : Bool) (number : ℕ) →
      AreBlocks old (seen_by l.fn.before.known l.interfaces) l.piece last number l.most_bytes (map (placed l.piece) l.initial.places.items) l.fn.before.used l.fn.before.number l.fn.before.bytes →
      AreBlocks old (seen_by (known_by l.fn.before.known (l.used - l.fn.before.used) l.places.items) l.interfaces) l.piece last number l.most_bytes (map (placed l.piece) l.places.items) l.used
      (number_further l.fn.before.number l.initial.places.items l.places.items) l.bytes;
  within : All (IsWithin l.piece) l.initial.places.items → All (IsWithin l.piece) l.places.items;
  inside : l.used ≤ length l.piece;
  forward : l.fn.before.used ≤ l.used;
  grown : length l.initial.places.items ≤ length l.places.items;
  few : number_further l.fn.before.number l.initial.places.items l.places.items ≤ 2 ^ 31;
  near : l.fn.before.known.at + (l.used - l.fn.before.used) < 2 ^ 64;
  room : 16384 ≤ vec_capacity l.places;
}

abbrev pub decreases-packets : goal.decreases-packets
decreases-packets l = 16384 - length l.places.items
