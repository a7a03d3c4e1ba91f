use Rattle.verdict_core.proofs.Alike.{verdict_alike}
use Rattle.verdict_core.proofs.laws.others_stay.Goals as goal

pub returns : goal.returns
returns c = λ t u i lawful lawful_too alike. verdict_alike t u i lawful lawful_too alike
