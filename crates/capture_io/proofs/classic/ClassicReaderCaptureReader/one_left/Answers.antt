use Rattle.std.proofs.Common.{drop}
use Rattle.capture_io.proofs.SplitLemmas.{one_way}
use Rattle.capture_io.proofs.classic.ClassicReaderCaptureReader.one_left.Goals as goal

pub returns : goal.returns
returns c = λ reader bytes number rs others ending other first second. one_way reader.form.big (drop reader.at bytes) reader.at number rs others ending other first second
