use Rattle.swap_core.proofs.Several.{several_steps}
use Rattle.swap_core.proofs.theorems.several_draws_are_steps.Goals as goal

pub returns : goal.returns
returns c = several_steps
