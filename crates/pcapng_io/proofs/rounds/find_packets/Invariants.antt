-- What was passed, and what was read ahead.
use Rattle.std.proofs.Common.{◌≡◌, ◌+◌, ◌-◌, ◌^◌, ◌≤◌, [], length, if◌then◌else◌, vec_capacity}
use Rattle.pcapng_io.specs.Seen.{seen_by}
use Rattle.pcapng_io.specs.Pieces.{IsSearch}
use Rattle.pcapng_io.proofs.rounds.find_packets.Given as goal

abbrev pub invariant-reads : goal.invariant-reads
invariant-reads g l = let f = g.I.Reading in record {
  readable : f.readable l.files ≡ f.readable l.initial.files;
  search : IsSearch (f.readable l.initial.files).held l.name (seen_by l.search.from.known l.initial.interfaces.items) (seen_by l.here l.interfaces.items)
      l.initial.window.bytes l.window l.search.from.number;
  none : l.places.items ≡ [];
  room : 16384 ≤ vec_capacity l.places;
}

abbrev pub decreases-reads : goal.decreases-reads
decreases-reads g l = 2 ^ 63 + 1 - (l.here.at + length l.window.bytes + (if l.window.last then 1 else 0))
