use Rattle.std.proofs.Common.{◌≡◌, ℕ, ◌-◌, ◌/◌, ◌<◌, ◌≤◌, length}
use Rattle.table_words.specs.Layout.{row_at}
use Rattle.table_words.proofs.compiler.end_of_address.Given as goal

abbrev pub decreases-rows : goal.decreases-rows
decreases-rows l = length l.rows - l.to

abbrev pub invariant-rows : goal.invariant-rows
invariant-rows l = record {
  some : l.from < l.to;
  within : l.to ≤ length l.rows;
  same : (e : ℕ) → l.from ≤ e → e < l.to → (row_at l.rows e).0 / 4294967296 ≡ (row_at l.rows l.from).0 / 4294967296;
}
