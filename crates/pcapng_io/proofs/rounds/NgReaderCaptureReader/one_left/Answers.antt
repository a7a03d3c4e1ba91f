use Rattle.std.proofs.Common.{drop}
use Rattle.pcapng_io.proofs.SplitLemmas.{one_way}
use Rattle.pcapng_io.proofs.rounds.NgReaderCaptureReader.one_left.Goals as goal

pub returns : goal.returns
returns c = λ reader bytes number rs others ending other. one_way reader.seen (drop reader.seen.known.at bytes) number rs others ending other
