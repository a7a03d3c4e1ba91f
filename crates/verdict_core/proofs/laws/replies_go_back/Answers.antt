use Rattle.verdict_core.proofs.Backs.{goes_back}
use Rattle.verdict_core.proofs.laws.replies_go_back.Goals as goal

pub returns : goal.returns
returns c = λ t i. goes_back t i
