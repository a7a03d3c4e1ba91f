-- The bytes are those that stand at the place that is known.
use Rattle.std.proofs.Common.{◌≡◌, ◌+◌, ◌-◌, ◌^◌, length, if◌then◌else◌}
use Rattle.capture_io.specs.Windows.{IsAtFront}
use Rattle.pcapng_io.proofs.block.read_block.Given as goal

abbrev pub invariant-reading : goal.invariant-reading
invariant-reading g l = let f = g.I.Reading in record {
  readable : f.readable l.files ≡ f.readable l.initial.files;
  stands : IsAtFront (f.readable l.initial.files).held l.name l.known.at l.window;
}

abbrev pub decreases-reading : goal.decreases-reading
decreases-reading g l = 2 ^ 32 + 1 - (length l.window.bytes + (if l.window.last then 1 else 0))
