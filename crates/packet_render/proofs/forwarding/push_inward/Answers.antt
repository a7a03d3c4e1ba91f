-- What is recorded of the packet is what is recorded of its item.
use Rattle.capture_io.specs.Packets.{packet_bytes}
use Rattle.ip_codec.specs.Packet4.{packet4}
use Rattle.ip_codec.specs.Seen.{seen}
use Rattle.packet_render.specs.Sent.{inward, packet_of_item}
use Rattle.packet_render.proofs.PushLemmas.{made_pushed}
use Rattle.packet_render.proofs.forwarding.push_inward.Goals as goal

pub returns-clause-pushed : goal.returns-clause-pushed
returns-clause-pushed c =
    let tunnel = c.args.tunnel in
    made_pushed (packet_bytes c.args.stamp.form c.args.stamp.seconds c.args.stamp.fraction) (packet_of_item (seen c.args.item.now)) (packet4 c.in-Some.packet.view)
    (inward tunnel.from tunnel.to tunnel.hop c.args.mtu c.args.number) c.args.out.now.items c.push_packet_inward.new.out.items c.in_ok-count.count
    c.in-Some.ensures c.in_ok-count.ensures.pushed
