-- The tests say that nothing of the frame is refused.
use Rattle.std.proofs.Common.{◌≡◌, ℕ, ◌==◌, false, sym, ◌∙◌, subst, arith}
use Rattle.std.proofs.lemmas.Bool.Decides.{nat_tests}
use Rattle.pcapng_io.specs.Frames.{section_type}
use Rattle.pcapng_io.proofs.PlainLemmas.{enhanced_found}
use Rattle.pcapng_io.proofs.fronts.enhanced_len.Goals as goal

pub returns-clause-is : goal.returns-clause-is
returns-clause-is c = λ at.
    enhanced_found c.args.big c.args.first.now at c.word-total.result
    (subst (λ (n : ℕ). (n == section_type) ≡ false) c.word-mark.ensures (grind (arith, nat_tests)))
    (sym c.word-kind.ensures ∙ grind (arith, nat_tests)) (sym c.word-total.ensures)
    (grind (arith, nat_tests)) (grind (arith, nat_tests)) (grind (arith, nat_tests))
    (sym c.word-tail.ensures ∙ grind (arith, nat_tests))
