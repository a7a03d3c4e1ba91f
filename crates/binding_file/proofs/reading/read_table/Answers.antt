use Rattle.std.proofs.Common.{arith}
use Rattle.binding_file.proofs.Trees.{cause_no_text}
use Rattle.binding_file.proofs.reading.read_table.Goals as goal

pub returns-in-Err-clause-cause : goal.returns-in-Err-clause-cause
returns-in-Err-clause-cause c = cause_no_text c.args.text.now (omega (arith, c.if-text-gt-MOST_FILE_BYTES.false)) c.in-Err.ensures.cases.0
