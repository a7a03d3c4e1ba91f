use Rattle.swap_core.proofs.Seating.{merged_sound}
use Rattle.swap_core.proofs.theorems.merges_keep_sound.Goals as goal

pub returns : goal.returns
returns c = merged_sound
