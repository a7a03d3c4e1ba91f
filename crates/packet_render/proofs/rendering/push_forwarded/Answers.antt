-- What is recorded of the packet is what is recorded of each item that has it.
use Rattle.std.proofs.Common.{◌++◌, ◌∙◌, ap, sym, flat_map, length}
use Rattle.capture_io.specs.Packets.{packet_bytes}
use Rattle.ip_codec.specs.Packet4.{packet4}
use Rattle.packet_render.specs.Sent.{inward, packet_of_item, sent}
use Rattle.verdict_core.specs.declared.verdicts.Verdict.{Verdict}
use Rattle.packet_render.proofs.PushLemmas.{made_pushed}
use Rattle.packet_render.proofs.rendering.push_forwarded.Goals as goal

pub returns-in_ok-count-in-Inward-clause-bytes : goal.returns-in_ok-count-in-Inward-clause-bytes
returns-in_ok-count-in-Inward-clause-bytes c = λ i is.
    let record_of = packet_bytes c.args.form c.args.seconds c.args.fraction in
    (made_pushed record_of (packet_of_item i) (packet4 c.args.packet.now.view)
    (inward c.in-Inward.from c.in-Inward.to c.in-Inward.hop c.in-Inward.mtu c.args.number) c.args.out.now.items c.push_packet_inward.new.out.items
    c.in_ok-count-in-Inward.count is c.in_ok-count-in-Inward.ensures.pushed).bytes
    ∙ ap (λ (v : Verdict). c.args.out.now.items ++ flat_map record_of (sent i v c.args.number)) (sym c.in-Inward.is)

pub returns-in_ok-count-in-Inward-clause-count : goal.returns-in_ok-count-in-Inward-clause-count
returns-in_ok-count-in-Inward-clause-count c = λ i is.
    let record_of = packet_bytes c.args.form c.args.seconds c.args.fraction in
    (made_pushed record_of (packet_of_item i) (packet4 c.args.packet.now.view)
    (inward c.in-Inward.from c.in-Inward.to c.in-Inward.hop c.in-Inward.mtu c.args.number) c.args.out.now.items c.push_packet_inward.new.out.items
    c.in_ok-count-in-Inward.count is c.in_ok-count-in-Inward.ensures.pushed).many
    ∙ ap (λ (v : Verdict). length (sent i v c.args.number)) (sym c.in-Inward.is)
