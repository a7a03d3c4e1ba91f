-- The inner packet is quoted in its two parts.
use Rattle.std.proofs.Common.{◌≡◌, length, sym, ◌∙◌, ap, refl}
use Rattle.capture_io.specs.Packets.{packet_bytes, packet_head}
use Rattle.icmp_errors.specs.Policy6.{policy6, policy_len}
use Rattle.ip_codec.specs.Packet4.{packet4, whole4}
use Rattle.packet_render.proofs.PushLemmas.{kept_after, one_pushed, recorded}
use Rattle.packet_render.proofs.replying.push_policy_about.Goals as goal

pub returns-clause-pushed : goal.returns-clause-pushed
returns-clause-pushed c =
    let stamp = c.args.stamp in
    let ends = c.args.ends in
    let p = packet4 c.args.inner.now.view in
    let packet = policy6 ends.from ends.to ends.hop c.args.outer.now (whole4 p) in
    let head = c.push_head.new.out.items in
    let size : length packet ≡ c.policy_len-len.result =
    c.push_source_policy6.ensures.size ∙ sym (c.policy_len-len.ensures ∙ ap policy_len c.total_len.ensures) in
    one_pushed (packet_bytes stamp.form stamp.seconds stamp.fraction) packet c.args.out.now.items c.push_tail.new.out.items
    (recorded stamp.form stamp.seconds stamp.fraction c.policy_len-len.result c.args.out.now.items head c.push_source_policy6.new.list.items
    c.push_tail.new.out.items packet size c.in_ok-push_head.ensures.bytes c.in_ok-push_source_policy6.ensures.bytes
    c.in_ok-push_tail.ensures.bytes)

pub returns-in_err-push_tail-clause-kept : goal.returns-in_err-push_tail-clause-kept
returns-in_err-push_tail-clause-kept c = λ failed.
    let stamp = c.args.stamp in
    let ends = c.args.ends in
    let head = packet_head stamp.form stamp.seconds stamp.fraction c.policy_len-len.result in
    kept_after (policy6 ends.from ends.to ends.hop c.args.outer.now (whole4 (packet4 c.args.inner.now.view))) c.args.out.now.items c.push_head.new.out.items
    c.push_source_policy6.new.list.items c.push_tail.new.out.items (head, c.in_ok-push_head.ensures.bytes) c.in_ok-push_source_policy6.ensures.bytes
    (c.in_err-push_tail.ensures.kept refl)
