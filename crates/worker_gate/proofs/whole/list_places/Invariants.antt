use Rattle.std.proofs.Common.{◌≡◌, ◌≤◌, map, vec_capacity}
use Rattle.std.specs.List.{range_with_len}
use Rattle.worker_gate.specs.WholeRounds.{place_in}
use Rattle.worker_gate.proofs.whole.list_places.Given as goal

abbrev pub invariant-places : goal.invariant-places
invariant-places l =
    record {
      listed : l.places.items ≡ map (place_in l.sheet) (range_with_len 0 l.index);
      places : l.count ≤ vec_capacity l.places;
      room : vec_capacity l.initial.places ≤ vec_capacity l.places;
    }
