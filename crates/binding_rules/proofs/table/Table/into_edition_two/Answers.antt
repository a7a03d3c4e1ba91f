use Rattle.binding_rules.specs.Tables.{binding_table}
use Rattle.binding_rules.proofs.Laws.{lawful}
use Rattle.binding_rules.proofs.table.Table.into_edition_two.Goals as goal

pub invariant_of-result : goal.invariant_of-result
invariant_of-result c =
    let t = c.self.inside in
    (lawful (binding_table t.edition t.softwire t.bindings.items) c.self.invariant).valid_in_two

pub returns-clause-valid : goal.returns-clause-valid
returns-clause-valid c =
    let t = c.self.inside in
    (lawful (binding_table t.edition t.softwire t.bindings.items) c.self.invariant).valid_in_two
