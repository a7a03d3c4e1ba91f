use Rattle.swap_core.proofs.Kept.{step_kept}
use Rattle.swap_core.proofs.theorems.steps_keep_sound.Goals as goal

pub returns : goal.returns
returns c = λ core s h. step_kept core h s
