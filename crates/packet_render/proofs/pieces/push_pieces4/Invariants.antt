-- The pieces that are recorded, and those that are left, are those of the packet.
use Rattle.std.proofs.Common.{◌≤◌, length}
use Rattle.aftr_base.specs.Appended.{Extends}
use Rattle.capture_io.specs.Packets.{packet_bytes}
use Rattle.fragmenter.specs.Left4.{left4}
use Rattle.fragmenter.specs.Pieces4.{fragments4}
use Rattle.ip_codec.specs.Packet4.{packet4}
use Rattle.packet_render.proofs.PushLemmas.{IsUnderWay}
use Rattle.packet_render.proofs.pieces.push_pieces4.Given as goal

abbrev pub invariant-pieces : goal.invariant-pieces
invariant-pieces l =
    IsUnderWay (packet_bytes l.stamp.form l.stamp.seconds l.stamp.fraction) (fragments4 (packet4 l.packet) l.mtu 0) (left4 l.cuts)
    l.initial.out.items l.out.items l.count
    × (length (fragments4 (packet4 l.packet) l.mtu 0) ≤ 128)
    × Extends l.initial.out.items l.out.items

abbrev pub decreases-pieces : goal.decreases-pieces
decreases-pieces l = length (left4 l.cuts)
