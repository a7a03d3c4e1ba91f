use Rattle.std.proofs.Common.{◌-◌, ◌^◌, ◌≡◌}
use Rattle.capture_io.specs.Windows.{IsAtFront}
use Rattle.pcapng_io.proofs.WalkLemmas.{IsWalk}
use Rattle.pcapng_io.proofs.walk.find_packet.Given as goal

abbrev pub invariant-passing : goal.invariant-passing
invariant-passing g l =
    (g.I.Reading.readable l.files ≡ g.I.Reading.readable l.initial.files)
    × IsWalk (g.I.Reading.readable l.initial.files).held l.name l.fn.known l.initial.interfaces.items l.number l.here l.first l.interfaces.items
    × IsAtFront (g.I.Reading.readable l.initial.files).held l.name l.here.at l.window

abbrev pub decreases-passing : goal.decreases-passing
decreases-passing g l = 2 ^ 63 - l.here.at
