use Rattle.pcapng_io.proofs.SpelledLemmas.{blocks_back}
use Rattle.pcapng_io.proofs.laws.blocks_are_read.Goals as goal

pub returns : goal.returns
returns c = blocks_back
