use Rattle.std.proofs.Common.{sym, ap, ◌∙◌}
use Rattle.table_hints.specs.Lines.{count_elements}
use Rattle.table_hints.proofs.Troubles.{counted}
use Rattle.table_hints.proofs.rereading.binding_count.Goals as goal

pub returns-in-Ok : goal.returns-in-Ok
returns-in-Ok c = sym (counted c.in-Ok.values.now) ∙ ap count_elements c.in-Ok.ensures
