-- The window stands in the block, and not behind the last four bytes of it.
use Rattle.std.proofs.Common.{◌≡◌, ◌+◌, ◌-◌, ◌^◌, ◌≤◌, length, if◌then◌else◌}
use Rattle.pcapng_io.specs.Long.{StandsAt, WithFront}
use Rattle.pcapng_io.proofs.long.read_over.Given as goal

abbrev pub invariant-passing : goal.invariant-passing
invariant-passing g l = let f = g.I.Reading in record {
  readable : f.readable l.files ≡ f.readable l.initial.files;
  stands : WithFront (f.readable l.initial.files).held l.name l.from l.initial.window (StandsAt l.here l.window);
  behind : l.from ≤ l.here;
  before : l.here ≤ l.end;
}

abbrev pub decreases-passing : goal.decreases-passing
decreases-passing g l = 2 ^ 63 + 1 - (l.here + length l.window.bytes + (if l.window.last then 1 else 0))
