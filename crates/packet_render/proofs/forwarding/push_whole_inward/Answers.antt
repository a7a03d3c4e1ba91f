-- The packet is 40 bytes longer than the one in it.
use Rattle.std.proofs.Common.{◌+◌, ◌∙◌, arith, refl}
use Rattle.capture_io.specs.Packets.{packet_bytes, packet_head}
use Rattle.ip_codec.specs.Packet4.{packet4}
use Rattle.softwire_encap.specs.Passing.{lowered}
use Rattle.softwire_encap.specs.Tunnel.{wrapped}
use Rattle.packet_render.proofs.PushLemmas.{kept_after, one_pushed, recorded}
use Rattle.packet_render.proofs.forwarding.push_whole_inward.Goals as goal

pub returns-clause-pushed : goal.returns-clause-pushed
returns-clause-pushed c =
    let stamp = c.args.stamp in
    let tunnel = c.args.tunnel in
    let packet = wrapped tunnel.from tunnel.to tunnel.hop (lowered (packet4 c.args.packet.now.view)) in
    one_pushed (packet_bytes stamp.form stamp.seconds stamp.fraction) packet c.args.out.now.items c.push_tail.new.out.items
    (recorded stamp.form stamp.seconds stamp.fraction (40 + c.total_len-len.result) c.args.out.now.items c.push_head.new.out.items c.push_tunnelled.new.out.items
    c.push_tail.new.out.items packet (c.in_ok-push_tunnelled.ensures.size ∙ omega (arith, c.total_len-len.ensures)) c.in_ok-push_head.ensures.bytes c.in_ok-push_tunnelled.ensures.bytes
    c.in_ok-push_tail.ensures.bytes)

pub returns-in_err-push_tail-clause-kept : goal.returns-in_err-push_tail-clause-kept
returns-in_err-push_tail-clause-kept c = λ failed.
    let stamp = c.args.stamp in
    let tunnel = c.args.tunnel in
    let head = packet_head stamp.form stamp.seconds stamp.fraction (40 + c.total_len-len.result) in
    kept_after (wrapped tunnel.from tunnel.to tunnel.hop (lowered (packet4 c.args.packet.now.view))) c.args.out.now.items c.push_head.new.out.items
    c.push_tunnelled.new.out.items c.push_tail.new.out.items (head, c.in_ok-push_head.ensures.bytes) c.in_ok-push_tunnelled.ensures.bytes
    (c.in_err-push_tail.ensures.kept refl)
