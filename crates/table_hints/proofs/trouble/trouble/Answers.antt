use Rattle.std.proofs.Common.{Err, subst, arith}
use Rattle.binding_file.specs.Files.{IsDocument}
use Rattle.table_hints.specs.Lines.{IsSound}
use Rattle.binding_file.specs.declared.refusals.FileRefused.TheVariants as refused
use Rattle.table_hints.proofs.Troubles.{one_line}
use Rattle.table_hints.proofs.trouble.trouble.Goals as goal

pub returns-else-first-last : goal.returns-else-first-last
returns-else-first-last c =
    one_line c.args.text.now c.last_begun-first.result c.args.last c.first_lines.result.now c.requires c.first_lines.ensures c.last_begun-first.ensures.most (omega (arith, c.if-first-last.false))
    (subst IsSound c.first_lines-2.ensures (c.in_ok-is_document.ensures.sound c.if-not-branch.false))
    (subst (λ t. IsDocument t (Err refused.NotToml)) c.first_lines-else-not-branch.ensures (c.in_ok-is_document-2.ensures.broken c.if-branch.false))
