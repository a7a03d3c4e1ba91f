use Rattle.std.proofs.Common.{◌-◌, ◌^◌, ◌≡◌, ◌<◌, None}
use Rattle.capture_io.specs.Windows.{IsAtFront}
use Rattle.pcapng_io.proofs.OpenLemmas.{OpensFrom}
use Rattle.pcapng_io.proofs.reader.NgReader.open_behind.Given as goal

abbrev pub invariant-opening : goal.invariant-opening
invariant-opening g l =
    (g.I.Reading.readable l.files ≡ g.I.Reading.readable l.initial.files)
    × OpensFrom (g.I.Reading.readable l.initial.files).held l.name l.known
    × (l.known.nanos < 1000000000)
    × IsAtFront (g.I.Reading.readable l.initial.files).held l.name l.known.at l.window
    × (l.known.link ≡ None)

abbrev pub decreases-opening : goal.decreases-opening
decreases-opening g l = 2 ^ 63 - l.known.at
