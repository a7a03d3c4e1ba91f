use Rattle.toml.specs.View.{view, table_view}
use Rattle.binding_file.proofs.Walks.{element_is}
use Rattle.binding_file.proofs.element.element_of.Goals as goal

pub returns-in-Some : goal.returns-in-Some
returns-in-Some c =
    element_is c.args.at (view c.args.value.now) (table_view c.in-Some.table.now) c.fields_of.result c.binding_of.result c.in-Some.ensures c.fields_of.ensures c.binding_of.ensures
