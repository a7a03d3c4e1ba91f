use Rattle.std.proofs.Common.{◌≡◌, vec_len}
use Rattle.binding_file.proofs.Elements.{Ready}
use Rattle.binding_file.proofs.reading.bindings_of.Given as goal

abbrev pub invariant-elements : goal.invariant-elements
invariant-elements l = record { ready : Ready l.values l.at l.bindings.items; count : vec_len l.bindings ≡ l.at }
