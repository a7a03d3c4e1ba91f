use Rattle.std.proofs.Common.{drop}
use Rattle.pcapng_io.proofs.SplitLemmas.{some_way}
use Rattle.pcapng_io.proofs.rounds.NgReaderCaptureReader.some_left.Goals as goal

pub returns : goal.returns
returns c = λ reader bytes number. some_way reader.seen (drop reader.seen.known.at bytes) number
