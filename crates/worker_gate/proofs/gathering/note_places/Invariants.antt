use Rattle.std.proofs.Common.{◌≡◌, length}
use Rattle.worker_gate.specs.Gathering.{AreNoted}
use Rattle.worker_gate.proofs.gathering.note_places.Given as goal

abbrev pub invariant-numbers : goal.invariant-numbers
invariant-numbers l =
    record {
      size : length l.places ≡ length l.initial.places;
      noted : AreNoted l.start l.sheet l.numbers l.index l.initial.places l.places;
    }
