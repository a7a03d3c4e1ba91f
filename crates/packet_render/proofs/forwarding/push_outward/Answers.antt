-- What is recorded of the item's packet is what the definition names.
use Rattle.capture_io.specs.Packets.{packet_bytes}
use Rattle.ip_codec.specs.Packet4.{packet4}
use Rattle.ip_codec.specs.Seen.{seen}
use Rattle.packet_render.specs.Sent.{outward, packet_of_item}
use Rattle.packet_render.proofs.PushLemmas.{made_pushed}
use Rattle.packet_render.proofs.forwarding.push_outward.Goals as goal

pub returns-clause-pushed : goal.returns-clause-pushed
returns-clause-pushed c =
    made_pushed (packet_bytes c.args.stamp.form c.args.stamp.seconds c.args.stamp.fraction) (packet_of_item (seen c.args.item.now)) (packet4 c.in-Some.packet.view)
    (outward c.args.mtu) c.args.out.now.items c.push_packet_outward.new.out.items c.in_ok-count.count c.in-Some.ensures c.in_ok-count.ensures.pushed
