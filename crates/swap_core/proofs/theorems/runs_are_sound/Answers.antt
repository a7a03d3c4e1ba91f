use Rattle.swap_core.proofs.Kept.{runs_sound}
use Rattle.swap_core.proofs.theorems.runs_are_sound.Goals as goal

pub returns : goal.returns
returns c = runs_sound
