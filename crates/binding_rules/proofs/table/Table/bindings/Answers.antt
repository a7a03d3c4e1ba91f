use Rattle.std.proofs.Common.{subst}
use Rattle.binding_rules.specs.Tables.{IsValid}
use Rattle.binding_rules.proofs.Laws.{lawful}
use Rattle.binding_rules.proofs.table.Table.bindings.Goals as goal

pub returns-clause-valid : goal.returns-clause-valid
returns-clause-valid c = subst IsValid c.self.view_is c.self.invariant

pub returns-clause-lawful : goal.returns-clause-lawful
returns-clause-lawful c = lawful _ (subst IsValid c.self.view_is c.self.invariant)
