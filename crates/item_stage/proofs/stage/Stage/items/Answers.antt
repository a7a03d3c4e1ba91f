use Rattle.std.proofs.Common.{◌∙◌, ap, arith, length}
use Rattle.item_stage.proofs.MarkLemmas.{entries_length}
use Rattle.item_stage.proofs.stage.Stage.items.Goals as goal

pub returns-clause-count : goal.returns-clause-count
returns-clause-count c =
    let count = c.in_ok-marks.ensures.count in
    ap length c.of.ensures ∙ (entries_length c.form-form.result c.args.records.now c.in_ok-marks.marks.slots (omega (arith, count)) ∙ count)
