use Rattle.std.proofs.Common.{sym}
use Rattle.ip_codec.specs.Packet4 as four
use Rattle.item_stage.proofs.WholeLemmas.{network_plain}
use Rattle.item_stage.proofs.reading.plain_from_network.Goals as goal

pub returns : goal.returns
returns c =
    sym (network_plain (four.packet4 c.plain_packet.result.view) (four.ip4_of c.args.bytes.now) c.plain_packet.ensures.read c.requires)
