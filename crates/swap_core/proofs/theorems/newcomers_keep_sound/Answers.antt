use Rattle.swap_core.proofs.Seating.{newcomer_sound}
use Rattle.swap_core.proofs.theorems.newcomers_keep_sound.Goals as goal

pub returns : goal.returns
returns c = newcomer_sound
