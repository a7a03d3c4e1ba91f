use Rattle.std.proofs.Common.{arith}
use Rattle.aftr_text.proofs.Numbers64.{outside}
use Rattle.aftr_text.proofs.fields.read_between.Goals as goal

pub returns-then-most-number-clause-none : goal.returns-then-most-number-clause-none
returns-then-most-number-clause-none c =
    outside c.args.word.now c.in_ok-number.number c.args.least c.args.most c.in_ok-number.ensures.some.0 c.in_ok-number.ensures.some.1
    (omega (arith, c.ranges.most.fits)) (λ low high. omega (arith, low, high, c.if-most-number.either))
