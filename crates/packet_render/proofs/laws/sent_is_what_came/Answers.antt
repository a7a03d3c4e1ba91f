use Rattle.packet_render.proofs.CameLemmas.{sends_what_came}
use Rattle.packet_render.proofs.laws.sent_is_what_came.Goals as goal

pub returns : goal.returns
returns c = λ i v number fits room. sends_what_came i v number fits room
