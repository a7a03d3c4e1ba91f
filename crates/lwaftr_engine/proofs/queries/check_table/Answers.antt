use Rattle.lwaftr_engine.proofs.QueryLemmas.{refuses_told}
use Rattle.lwaftr_engine.proofs.queries.check_table.Goals as goal

pub returns-in-Err-Refused-clause-refused : goal.returns-in-Err-Refused-clause-refused
returns-in-Err-Refused-clause-refused g c =
    rw c.in-Err-Refused.refusal-is (refuses_told c.one_table.ensures.answer (g.I.Reading.readable c.args.files.now).held _ _ _
    c.in-Err-Refused.field-0-is c.in-Err-Refused.ensures.refused)
