use Rattle.lwaftr_engine.proofs.Words.{Ok}
use Rattle.lwaftr_engine.proofs.FrontLemmas.{refusal_told, table_told}
use Rattle.lwaftr_engine.proofs.table_file.table_in.Goals as goal

pub returns-in-Ok-read_table-clause-table : goal.returns-in-Ok-read_table-clause-table
returns-in-Ok-read_table-clause-table g c =
    table_told (g.I.Reading.readable c.args.files.now).held _ _ _ (Ok c.in-Ok-read_table.table) c.as_slice.ensures c.in-Ok.ensures.bytes
    c.in-Ok-read_table.ensures.table

pub returns-in-Err-Refused-clause-refused : goal.returns-in-Err-Refused-clause-refused
returns-in-Err-Refused-clause-refused g c =
    refusal_told (g.I.Reading.readable c.args.files.now).held _ _ _ _ _
    c.as_slice.ensures c.in-Err-Refused.field-0-is c.in-Ok.ensures.bytes c.in-Err-Refused.ensures.cause
