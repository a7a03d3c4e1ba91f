use Rattle.swap_core.proofs.Pointing.{settled_points}
use Rattle.swap_core.proofs.theorems.settled_points_are_all.Goals as goal

pub returns : goal.returns
returns c = λ p points records h. settled_points p h points records
