use Rattle.std.proofs.Common.{◌≡◌, ℕ, ◌-◌, ◌/◌, ◌<◌, ◌≤◌, ◌++◌, Bool, drop, length}
use Rattle.table_words.specs.Layout.{row_at}
use Rattle.table_words.specs.Parts.{TellsMixed, entry_words}
use Rattle.table_words.proofs.compiler.put_entries.Given as goal

abbrev pub decreases-addresses : goal.decreases-addresses
decreases-addresses l = length l.rows - l.from

abbrev pub invariant-addresses : goal.invariant-addresses
invariant-addresses l = record {
  within : l.from ≤ length l.rows;
  start : (e : ℕ) → e < l.from → l.from < length l.rows → (row_at l.rows e).0 / 4294967296 < (row_at l.rows l.from).0 / 4294967296;
  put : (mixed : ℕ → Bool) → TellsMixed l.rows mixed
      → l.words.items ++ entry_words mixed (drop l.from l.rows) ≡ l.initial.words.items ++ entry_words mixed l.rows;
}
