use Rattle.std.proofs.Common.{drop}
use Rattle.capture_io.proofs.SplitLemmas.{some_way}
use Rattle.capture_io.proofs.classic.ClassicReaderCaptureReader.some_left.Goals as goal

pub returns : goal.returns
returns c = λ reader bytes number. some_way reader.form.big (drop reader.at bytes) reader.at number
