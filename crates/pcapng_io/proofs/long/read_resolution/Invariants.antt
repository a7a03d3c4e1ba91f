-- What was found, and what the options that are left give, where the block is all there.
use Rattle.std.proofs.Common.{◌≡◌, ◌+◌, ◌-◌, ◌^◌, ◌≤◌, length, if◌then◌else◌}
use Rattle.pcapng_io.specs.Long.{StandsAt, WithFront}
use Rattle.pcapng_io.proofs.LongLemmas.{GivesFrom}
use Rattle.pcapng_io.proofs.long.read_resolution.Given as goal

abbrev pub invariant-options : goal.invariant-options
invariant-options g l = let f = g.I.Reading in record {
  readable : f.readable l.files ≡ f.readable l.initial.files;
  ends : l.end ≡ l.at + l.frame.total - 4;
  stands : WithFront (f.readable l.initial.files).held l.name (l.at + 16) l.initial.window (StandsAt l.here l.window);
  behind : l.at + 16 ≤ l.here;
  inside : l.here + l.place ≤ l.end;
  gives : WithFront (f.readable l.initial.files).held l.name (l.at + 16) l.initial.window (GivesFrom l.frame l.at l.here l.place l.found);
}

abbrev pub decreases-options : goal.decreases-options
decreases-options g l = 2 ^ 63 + 1 - (l.here + length l.window.bytes + (if l.window.last then 1 else 0))
