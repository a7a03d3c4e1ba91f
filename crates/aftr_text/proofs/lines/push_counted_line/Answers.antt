use Rattle.std.proofs.Common.{ℕ, List, ◌++◌, codes, decimal, ◌∙◌, ap, subst}
use Rattle.std.specs.Prelude.{◌≡◌, IfOk}
use Rattle.aftr_text.specs.Lines.{judged_text, outcome}
use Rattle.aftr_text.proofs.Appending.{once}
use Rattle.aftr_text.proofs.DigitLemmas.{of_one}
use Rattle.aftr_text.proofs.lines.push_counted_line.Goals as goal

pub returns-in-Some-clause-bytes : goal.returns-in-Some-clause-bytes
returns-in-Some-clause-bytes c =
    let judged : List ℕ = judged_text c.args.number.now c.args.version in
    subst (λ (l : List ℕ). IfOk c.push_short.result (λ _. c.push_short.new.lines.items ≡ c.args.lines.now.items ++ l))
    (ap (λ (l : List ℕ). judged ++ l) c.in-Some.ensures.text
    ∙ once judged (codes " ") (outcome c.args.verdict.now) (codes " ") (decimal c.args.packets) (codes "\n") (codes "1\n")
    (of_one c.args.packets c.if-packets-eq1.true))
    c.push_short.ensures.bytes
