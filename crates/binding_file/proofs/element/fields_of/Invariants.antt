use Rattle.toml.specs.View.{members_view, table_view}
use Rattle.binding_file.proofs.Walks.{AreSoFar}
use Rattle.binding_file.proofs.element.fields_of.Given as goal

abbrev pub invariant-keys : goal.invariant-keys
invariant-keys l = AreSoFar l.fields (members_view l.key-iterator) (table_view l.table)
