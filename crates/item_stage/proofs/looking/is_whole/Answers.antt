use Rattle.std.proofs.Common.{◌∙◌, sym}
use Rattle.item_stage.proofs.LookLemmas.{network_uncut}
use Rattle.item_stage.proofs.looking.is_whole.Goals as goal

pub returns : goal.returns
returns c looked = network_uncut c.args.packet.now (sym c.is_uncut.ensures ∙ looked)
