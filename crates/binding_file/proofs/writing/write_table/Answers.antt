use Rattle.std.proofs.Common.{Ok, arith, sym, subst, string_bytes}
use Rattle.std.proofs.lemmas.Str.{IsUtf8-string_bytes}
use Rattle.toml.specs.View.{table_view}
use Rattle.binding_file.specs.Files.{TextOf}
use Rattle.binding_file.proofs.Trees.{table_text}
use Rattle.binding_file.proofs.writing.write_table.Goals as goal

pub returns-in-Ok : goal.returns-in-Ok
returns-in-Ok c =
    subst (λ text. TextOf text (Ok c.args.table.now)) (sym c.of.ensures)
    (table_text (string_bytes c.in-Ok.text) (table_view c.in_ok-document.document) c.args.table.now
    (IsUtf8-string_bytes c.in-Ok.text, c.in-Ok.ensures.reads_back (omega (arith, c.in_ok-document.ensures.flat))) c.in_ok-document.ensures.tree c.in_ok-document.ensures.valid)
