use Rattle.capture_io.proofs.SplitLemmas.{one_way}
use Rattle.capture_io.proofs.laws.one_reading.Goals as goal

pub returns : goal.returns
returns c = one_way
