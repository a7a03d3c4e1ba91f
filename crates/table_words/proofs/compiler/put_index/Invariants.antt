use Rattle.std.proofs.Common.{◌≡◌, ℕ, ◌-◌, ◌/◌, ◌<◌, ◌≤◌, ◌++◌, length}
use Rattle.table_words.specs.Layout.{row_at}
use Rattle.table_words.specs.Parts.{index_words}
use Rattle.table_words.proofs.compiler.put_index.Given as goal

abbrev pub invariant-rows : goal.invariant-rows
invariant-rows l = record {
  within : l.below ≤ length l.rows;
  passed : (e : ℕ) → e < l.below → (row_at l.rows e).0 / 281474976710656 < l.high;
}

abbrev pub decreases-rows : goal.decreases-rows
decreases-rows l = length l.rows - l.below

abbrev pub invariant-index : goal.invariant-index
invariant-index l = record {
  within : l.below ≤ length l.rows;
  passed : (e : ℕ) → e < l.below → (row_at l.rows e).0 / 281474976710656 < l.high;
  put : l.words.items ≡ l.initial.words.items ++ index_words l.rows l.high;
}
