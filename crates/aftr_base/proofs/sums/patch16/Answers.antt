-- What is ensured is the law of the value.
use Rattle.std.proofs.Common.{arith}
use Rattle.aftr_base.proofs.SumLemmas.{patched-law}
use Rattle.aftr_base.proofs.sums.patch16.Goals as goal

pub returns-clause-law : goal.returns-clause-law
returns-clause-law c = rw (c.fold.ensures, c.from.ensures, c.from-2.ensures, c.from-3.ensures) (patched-law c.args.sum c.args.was c.args.now (omega arith))
