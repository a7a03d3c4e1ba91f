use Rattle.std.proofs.Common.{Err, rules}
use Rattle.binding_rules.specs.Tables.{binding_table as table_from}
use Rattle.toml.specs.View.{table_view}
use Rattle.binding_file.specs.Files.{Says}
use Rattle.binding_file.specs.Parts.{IsRead}
use Rattle.binding_file.specs.declared.reading.Spelled.{Spelled}
use Rattle.binding_file.proofs.Trees.{read_document, read_tree}
use Rattle.binding_file.proofs.reading.whole_tree.Goals as goal

pub returns-in_err-document-clause-read : goal.returns-in_err-document-clause-read
returns-in_err-document-clause-read c =
    let read : IsRead (λ (s : Spelled). table_from s.edition s.softwire s.bindings.items) (Says c.args.text.now) (Err c.in_err-document.field-0.0) =
    read_document Spelled (λ (s : Spelled). table_from s.edition s.softwire s.bindings.items) c.args.text.now c.in_err-document.field-0.0 c.in_err-document.ensures.read in
    search rules

pub returns-clause-read : goal.returns-clause-read
returns-clause-read c =
    read_tree Spelled (λ (s : Spelled). table_from s.edition s.softwire s.bindings.items) c.args.text.now (table_view c.in_ok-document.document) c.tree_of.result c.in_ok-document.ensures.read c.tree_of.ensures.read
