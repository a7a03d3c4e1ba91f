use Rattle.std.proofs.Common.{◌+◌, arith}
use Rattle.capture_io.proofs.RecordLemmas.{header_end}
use Rattle.capture_io.proofs.laws.records_rise.Goals as goal

pub returns : goal.returns
returns c = λ big left at number r e. omega (arith, header_end big left at number (at + 15) r (omega arith) e)
