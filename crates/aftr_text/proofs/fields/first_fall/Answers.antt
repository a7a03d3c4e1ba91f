use Rattle.std.proofs.Common.{arith, refl}
use Rattle.aftr_text.proofs.LoadLemmas.{fallen, not_rising, rising_more}
use Rattle.aftr_text.proofs.fields.first_fall.Goals as goal

pub returns-then-not-is_not_before-clause-some : goal.returns-then-not-is_not_before-clause-some
returns-then-not-is_not_before-clause-some c =
    fallen c.args.loads.now c.loads.next _ _ (omega arith) c.loads-test.true c.if-not-is_not_before.ensures.1

pub returns-then-not-is_not_before-clause-falls : goal.returns-then-not-is_not_before-clause-falls
returns-then-not-is_not_before-clause-falls c =
    λ rising. let bad = not_rising c.args.loads.now c.loads.next _ _ (omega arith) c.loads-test.true c.if-not-is_not_before.ensures.1 rising in absurd cc

pub loads-preserved : goal.loads-preserved
loads-preserved c =
    rising_more c.args.loads.now c.loads.next _ _ c.loads-test.true c.loads.invariant (c.if-not-is_not_before.ensures.0 refl)
