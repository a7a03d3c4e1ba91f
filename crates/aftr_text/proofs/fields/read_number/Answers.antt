use Rattle.aftr_text.proofs.Numbers64.{not_parsed, not_written}
use Rattle.aftr_text.proofs.fields.read_number.Goals as goal

pub returns-in_default-clause-none : goal.returns-in_default-clause-none
returns-in_default-clause-none c = not_parsed c.args.word.now c.parse.result c.parse.ensures.value.0 c.in_default.not-Ok

pub returns-else-eq-clause-none : goal.returns-else-eq-clause-none
returns-else-eq-clause-none c =
    not_written c.args.word.now c.format.result.now c.parse.result c.in-Ok.number c.eq.result c.parse.ensures.value.0 c.in-Ok.is
    c.format.ensures.text c.eq.ensures c.if-eq.false
