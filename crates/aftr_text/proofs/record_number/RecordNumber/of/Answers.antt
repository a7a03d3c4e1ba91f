use Rattle.std.proofs.Common.{◌∙◌, ap, rules, arith}
use Rattle.std.specs.Prelude.{decimal}
use Rattle.std.proofs.lemmas.Fmt.{decimal_nonempty, length-decimal-le}
use Rattle.std.proofs.lemmas.List.{append-nil}
use Rattle.aftr_text.proofs.record_number.RecordNumber.of.Goals as goal

pub write_digits-start-requires : goal.write_digits-start-requires
write_digits-start-requires c = search (rules, length-decimal-le 10)

pub invariant_of-result : goal.invariant_of-result
invariant_of-result c =
    let wide = c.from.ensures in (
      omega (arith, c.write_digits-start.ensures.start, decimal_nonempty c.from.result (omega (arith, wide))),
      c.write_digits-start.ensures.written ∙ (append-nil (decimal c.from.result) ∙ ap decimal wide),
    )
