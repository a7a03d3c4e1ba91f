use Rattle.pcapng_io.proofs.EitherLemmas.{some_either}
use Rattle.pcapng_io.proofs.either.ReaderCaptureReader.some_left.Goals as goal

pub returns : goal.returns
returns c = λ reader bytes number. some_either c.some_left.ensures c.some_left-2.ensures reader bytes number
