use Rattle.packet_render.proofs.ReplyLemmas.{says_why}
use Rattle.packet_render.proofs.laws.replies_say_why.Goals as goal

pub returns : goal.returns
returns c = λ i told fits are range. says_why i told fits are range
