use Rattle.capture_io.proofs.SpellingLemmas.{capture_back}
use Rattle.capture_io.proofs.laws.written_is_read.Goals as goal

pub returns : goal.returns
returns c = capture_back
