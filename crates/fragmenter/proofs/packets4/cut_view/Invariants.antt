-- The pieces that were cut, and those that are left, are those of the packet.
use Rattle.std.proofs.Common.{◌≡◌, ◌++◌, length}
use Rattle.ip_codec.specs.Packet4.{packet4}
use Rattle.fragmenter.specs.Left4.{left4}
use Rattle.fragmenter.specs.Pieces4.{fragments4}
use Rattle.fragmenter.proofs.packets4.cut_view.Given as goal

abbrev pub invariant-pieces : goal.invariant-pieces
invariant-pieces l = l.list.items ++ left4 l.cuts ≡ fragments4 (packet4 l.packet) l.mtu 0

abbrev pub decreases-pieces : goal.decreases-pieces
decreases-pieces l = length (left4 l.cuts)
