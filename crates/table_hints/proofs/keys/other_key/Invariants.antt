use Rattle.std.proofs.Common.{◌≡◌}
use Rattle.toml.specs.View.{members_view, table_view}
use Rattle.table_hints.specs.UnknownKeys.{other_key}
use Rattle.table_hints.proofs.keys.other_key.Given as goal

abbrev pub invariant-keys : goal.invariant-keys
invariant-keys l = other_key l.names (members_view l.key-iterator) ≡ other_key l.names (table_view l.table)
