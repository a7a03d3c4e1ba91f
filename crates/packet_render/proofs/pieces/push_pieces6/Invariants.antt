-- The fragments that are recorded, and those that are left, are those of the packet.
use Rattle.std.proofs.Common.{◌≤◌, length}
use Rattle.aftr_base.specs.Appended.{Extends}
use Rattle.capture_io.specs.Packets.{packet_bytes}
use Rattle.fragmenter.specs.Left6.{left6}
use Rattle.fragmenter.specs.Pieces6.{fragments6, with_rest}
use Rattle.ip_codec.specs.Packet6.{packet6}
use Rattle.packet_render.proofs.PushLemmas.{IsUnderWay}
use Rattle.packet_render.proofs.pieces.push_pieces6.Given as goal

abbrev pub invariant-pieces : goal.invariant-pieces
invariant-pieces l =
    IsUnderWay (packet_bytes l.stamp.form l.stamp.seconds l.stamp.fraction) (fragments6 (with_rest (packet6 l.fn.packet) l.rest) l.mtu l.id 0) (left6 l.cuts)
    l.initial.out.items l.out.items l.count
    × (length (fragments6 (with_rest (packet6 l.fn.packet) l.rest) l.mtu l.id 0) ≤ 54)
    × Extends l.initial.out.items l.out.items

abbrev pub decreases-pieces : goal.decreases-pieces
decreases-pieces l = length (left6 l.cuts)
