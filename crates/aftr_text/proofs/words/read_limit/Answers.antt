use Rattle.std.proofs.Common.{arith, inr, refl}
use Rattle.aftr_text.proofs.FaultLemmas.{single}
use Rattle.aftr_text.proofs.words.read_limit.Goals as goal

pub returns-in-None-clause-cause : goal.returns-in-None-clause-cause
returns-in-None-clause-cause c =
    inr (refl, (_, single c.args.given.now _ (omega (arith, c.if-given-ne1.false)), c.in-None.ensures.none))
