use Rattle.verdict_core.proofs.Telling.{tells_what_is_due}
use Rattle.verdict_core.proofs.laws.replies_are_due.Goals as goal

pub returns : goal.returns
returns c = λ t i lawful. tells_what_is_due t i lawful
