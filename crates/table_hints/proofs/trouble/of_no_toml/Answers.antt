use Rattle.std.proofs.Common.{sym, subst, arith}
use Rattle.std.specs.Str.{IsValidUpTo}
use Rattle.binding_file.proofs.Trees.{cause_no_text}
use Rattle.table_hints.proofs.Troubles.{no_text_lines, text_lines, text_refused}
use Rattle.table_hints.proofs.trouble.of_no_toml.Goals as goal

pub returns-in-Ok-clause-lines : goal.returns-in-Ok-clause-lines
returns-in-Ok-clause-lines c = λ size.
    text_lines c.args.text.now c.in-Ok.text.now c.of_text.result c.in-Ok.ensures.cases.0 c.in-Ok.ensures.cases.1 c.of_text.ensures.no_line c.of_text.ensures.trouble

pub returns-in-Ok-clause-its_own : goal.returns-in-Ok-clause-its_own
returns-in-Ok-clause-its_own c =
    text_refused c.args.text.now c.in-Ok.text.now c.of_text.result (omega (arith, c.if-text-gt-MOST_FILE_BYTES.false)) c.in-Ok.ensures.cases.0 c.of_text.ensures.its_own

pub returns-in-Err-clause-lines : goal.returns-in-Err-clause-lines
returns-in-Err-clause-lines c = λ size.
    no_text_lines c.args.text.now c.valid_up_to.result c.line_at.result c.in-Err.ensures.cases.0 (subst (IsValidUpTo c.args.text.now) (sym c.valid_up_to.ensures) c.in-Err.ensures.cases.1) c.line_at.ensures

pub returns-in-Err-clause-its_own : goal.returns-in-Err-clause-its_own
returns-in-Err-clause-its_own c = cause_no_text c.args.text.now (omega (arith, c.if-text-gt-MOST_FILE_BYTES.false)) c.in-Err.ensures.cases.0
