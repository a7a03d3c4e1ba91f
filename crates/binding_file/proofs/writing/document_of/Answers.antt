use Rattle.std.proofs.Common.{◌≡◌, ap, pos, subst, ◌∙◌}
use Rattle.toml.specs.Data.{integer}
use Rattle.toml.specs.View.{view, table_view}
use Rattle.binding_file.specs.Parts.{edition_number, IsSoftwireData, AreBindingsData}
use Rattle.binding_file.proofs.Members.{no_entries}
use Rattle.binding_file.proofs.Written.{top_members, top_put, tree_written, flat_written}
use Rattle.binding_file.proofs.writing.document_of.Goals as goal
use Rattle.binding_file.proofs.writing.document_of.Goals.{In_ok-put-3}

tree : (c : In_ok-put-3) → table_view c.put-3.new.table ≡ top_members c.args.table.now.edition (view c.in_ok-softwire.softwire) (view c.in_ok-bindings.bindings)
tree c =
    top_put (table_view c.new-document.result) (table_view c.put.new.table) (table_view c.put-2.new.table) (table_view c.put-3.new.table)
    c.args.table.now.edition (view c.number-version.result) (view c.in_ok-softwire.softwire) (view c.in_ok-bindings.bindings)
    (no_entries c.new-document.result c.new-document.ensures.empty)
    (c.number-version.ensures.view ∙ ap (λ n. integer (pos n)) (c.version_of.ensures ∙ ap edition_number c.edition.ensures))
    c.in_ok-put.ensures c.in_ok-put-2.ensures c.in_ok-put-3.ensures

softwire : (c : In_ok-put-3) → IsSoftwireData (view c.in_ok-softwire.softwire) c.args.table.now.softwire
softwire c = subst (IsSoftwireData (view c.in_ok-softwire.softwire)) c.softwire.ensures.value c.in_ok-softwire.ensures

bindings : (c : In_ok-put-3) → AreBindingsData (view c.in_ok-bindings.bindings) c.args.table.now.bindings
bindings c = subst (AreBindingsData (view c.in_ok-bindings.bindings)) c.bindings.ensures.value c.in_ok-bindings.ensures

pub returns-clause-tree : goal.returns-clause-tree
returns-clause-tree c = tree_written (table_view c.put-3.new.table) c.args.table.now (view c.in_ok-softwire.softwire) (view c.in_ok-bindings.bindings) (tree c) (softwire c) (bindings c)

pub returns-clause-flat : goal.returns-clause-flat
returns-clause-flat c = flat_written (table_view c.put-3.new.table) c.args.table.now (view c.in_ok-softwire.softwire) (view c.in_ok-bindings.bindings) (tree c) (softwire c) (bindings c)
