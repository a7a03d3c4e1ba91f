-- What stood there stands still where its end found no memory.
use Rattle.std.proofs.Common.{refl}
use Rattle.capture_io.specs.Packets.{packet_head}
use Rattle.ip_codec.specs.Packet4.{packet4}
use Rattle.softwire_encap.specs.Passing.{lowered}
use Rattle.packet_render.proofs.PushLemmas.{kept_after}
use Rattle.packet_render.proofs.forwarding.push_whole_outward.Goals as goal

pub returns-in_err-push_tail-clause-kept : goal.returns-in_err-push_tail-clause-kept
returns-in_err-push_tail-clause-kept c = λ failed.
    let stamp = c.args.stamp in
    let head = packet_head stamp.form stamp.seconds stamp.fraction c.total_len-len.result in
    kept_after (lowered (packet4 c.args.packet.now.view)) c.args.out.now.items c.push_head.new.out.items c.push_lowered.new.out.items
    c.push_tail.new.out.items (head, c.in_ok-push_head.ensures.bytes) c.in_ok-push_lowered.ensures.bytes (c.in_err-push_tail.ensures.kept refl)
