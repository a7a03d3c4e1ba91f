use Rattle.std.proofs.Common.{take}
use Rattle.toml.specs.View.{items_view}
use Rattle.binding_file.specs.Parts.{AreSpelled}
use Rattle.binding_file.proofs.writing.bindings_value.Given as goal

abbrev pub invariant-bindings : goal.invariant-bindings
invariant-bindings l = AreSpelled (items_view l.values.items) (take l.binding-index l.bindings)
