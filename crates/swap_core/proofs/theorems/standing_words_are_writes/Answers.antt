use Rattle.swap_core.proofs.Standing.{standing_writes}
use Rattle.swap_core.proofs.theorems.standing_words_are_writes.Goals as goal

pub returns : goal.returns
returns c = standing_writes
