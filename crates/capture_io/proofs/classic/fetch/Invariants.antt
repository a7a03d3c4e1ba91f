-- What was read, and that no read failed.
use Rattle.std.proofs.Common.{◌≡◌, ◌+◌, ◌-◌, length, if◌then◌else◌}
use Rattle.capture_io.specs.Windows.{IsMore}
use Rattle.capture_io.proofs.classic.fetch.Given as goal

abbrev pub invariant-reads : goal.invariant-reads
invariant-reads g l = let f = g.I.Reading in record {
  told : IsMore (f.readable l.initial.files).held l.name l.next.at l.initial.window l.window;
  readable : f.readable l.files ≡ f.readable l.initial.files;
}

abbrev pub decreases-reads : goal.decreases-reads
decreases-reads g l = 262161 - (length l.window.bytes + (if l.window.last then 1 else 0))
