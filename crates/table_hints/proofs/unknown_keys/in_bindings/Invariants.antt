-- The key of all bindings is that of those that are left.
use Rattle.std.proofs.Common.{◌≡◌, ◌+◌, length}
use Rattle.toml.specs.View.{items_view}
use Rattle.table_hints.specs.UnknownKeys.{in_bindings}
use Rattle.table_hints.proofs.unknown_keys.in_bindings.Given as goal

abbrev pub invariant-bindings : goal.invariant-bindings
invariant-bindings l = record {
  same : in_bindings l.at (items_view l.rest) ≡ in_bindings 0 (items_view l.values);
  count : l.at + length l.rest ≡ length l.values;
}

abbrev pub decreases-bindings : goal.decreases-bindings
decreases-bindings l = length l.rest
