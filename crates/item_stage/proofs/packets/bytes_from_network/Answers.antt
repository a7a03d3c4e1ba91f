use Rattle.item_stage.proofs.WholeLemmas.{network_known}
use Rattle.item_stage.proofs.packets.bytes_from_network.Goals as goal

pub returns : goal.returns
returns c = network_known c.args.bytes.now c.requires
