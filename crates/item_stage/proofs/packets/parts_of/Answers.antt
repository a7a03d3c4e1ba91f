use Rattle.ip_codec.specs.Packet4.{ip4_of, packet4}
use Rattle.item_stage.proofs.WholeLemmas.{is_packet, packet_is, read_known}
use Rattle.item_stage.proofs.packets.parts_of.Goals as goal

pub known_packet-packet-requires : goal.known_packet-packet-requires
known_packet-packet-requires c = read_known (ip4_of c.args.bytes.now) c.requires

pub invariant_of-result : goal.invariant_of-result
invariant_of-result c =
    let known = c.known_packet-packet in
    record { read = is_packet c.args.bytes.now (packet4 known.result.view) known.ensures.read known.result.bounded }

pub returns : goal.returns
returns c = packet_is c.args.bytes.now (packet4 c.known_packet-packet.result.view) c.known_packet-packet.ensures.read
