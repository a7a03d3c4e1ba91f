use Rattle.packet_render.proofs.RightLemmas.{rightly_sent}
use Rattle.packet_render.proofs.laws.sent_rightly.Goals as goal

pub returns : goal.returns
returns c = rightly_sent
