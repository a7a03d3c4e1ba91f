use Rattle.capture_io.proofs.SplitLemmas.{some_way}
use Rattle.capture_io.proofs.laws.some_reading.Goals as goal

pub returns : goal.returns
returns c = some_way
