-- The fragments that were cut, and those that are left, are those of the packet.
use Rattle.std.proofs.Common.{◌≡◌, ◌++◌, length}
use Rattle.ip_codec.specs.Packet6.{packet6}
use Rattle.fragmenter.specs.Left6.{left6}
use Rattle.fragmenter.specs.Pieces6.{fragments6}
use Rattle.fragmenter.proofs.packets6.cut_view.Given as goal

abbrev pub invariant-pieces : goal.invariant-pieces
invariant-pieces l = l.list.items ++ left6 l.cuts ≡ fragments6 (packet6 l.packet) l.mtu l.id 0

abbrev pub decreases-pieces : goal.decreases-pieces
decreases-pieces l = length (left6 l.cuts)
