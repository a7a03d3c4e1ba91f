-- One error about the packet that the item has.
use Rattle.capture_io.specs.Packets.{packet_bytes}
use Rattle.ip_codec.specs.Packet4.{packet4}
use Rattle.ip_codec.specs.Seen.{seen}
use Rattle.packet_render.specs.Sent.{along, packet_of_item}
use Rattle.packet_render.specs.Told.{told_bytes}
use Rattle.packet_render.proofs.PushLemmas.{made_pushed, one_pushed}
use Rattle.packet_render.proofs.replying.push_about.Goals as goal

pub returns-clause-pushed : goal.returns-clause-pushed
returns-clause-pushed c =
    let packet = packet4 c.in-Some.packet.view in
    let record_of = packet_bytes c.args.stamp.form c.args.stamp.seconds c.args.stamp.fraction in
    made_pushed record_of (packet_of_item (seen c.args.item.now)) packet _ c.args.out.now.items c.push_error.new.out.items 1 c.in-Some.ensures
    (one_pushed record_of (along c.args.path (told_bytes c.args.own c.args.told packet)) c.args.out.now.items c.push_error.new.out.items
    c.in_ok-push_error.ensures.bytes)
