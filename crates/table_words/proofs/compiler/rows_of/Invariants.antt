use Rattle.std.proofs.Common.{◌≡◌, map, take}
use Rattle.table_words.specs.Layout.{row}
use Rattle.table_words.proofs.compiler.rows_of.Given as goal

abbrev pub invariant-bindings : goal.invariant-bindings
invariant-bindings l = l.rows.items ≡ map row (take l.binding-index l.bindings)
