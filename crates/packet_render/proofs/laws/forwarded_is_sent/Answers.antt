use Rattle.packet_render.proofs.CountLemmas.{sends}
use Rattle.packet_render.proofs.laws.forwarded_is_sent.Goals as goal

pub returns : goal.returns
returns c = λ i v number fits room. sends i v number fits room
