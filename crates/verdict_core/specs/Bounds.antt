-- What a verdict reads of the words of a table, and how many of them.
use Rattle.std.specs.Prelude.{◌≡◌, ℕ, ◌+◌, ◌*◌, ◌-◌, ◌≤◌, ◌⊎◌, false, List}
use Rattle.binding_rules.specs.Tables.{BindingTable}
use Rattle.table_words.specs.Bounds.{found_bound, look_bound}
use Rattle.table_words.specs.Layout.{IsCompiled, has_two_shapes}
use Rattle.table_words.specs.Reads.{read_more}
use Rattle.table_words.specs.declared.reader.Words.{Ghosts}

-- From one value to another, with these counts of steps: the words stay, a read is told for each step, and calls of `word` may
-- leave the one where the other was.
pub record Reads {W : Type 0} (g : Ghosts W) (old new : W) (before after : ℕ) : Type 0 where
  pub list : g.list new ≡ g.list old
  pub reads : g.reads new ≡ read_more (g.reads old) (after - before)
  pub goes : g.goes old new
  pub later : before ≤ after

-- so many steps are enough for a lookup: fewer where no address has two shapes, as in every table of edition One
abbrev pub IsLook : BindingTable → ℕ → Type 0
IsLook t n = (n ≡ look_bound t.bindings) ⊎ ((has_two_shapes t.bindings ≡ false) × (n ≡ found_bound t.bindings))

-- with so many steps a lookup, as many as this are enough
abbrev pub IsWithin : (ℕ → ℕ) → List ℕ → ℕ → ℕ → Type 0
IsWithin most list before after = (t : BindingTable) → IsCompiled t list → (n : ℕ) → IsLook t n → after ≤ before + most n

-- the most steps of a verdict where the settings are known: two lookups, and one word more
abbrev pub judge_into_bound : ℕ → ℕ
judge_into_bound look = 2 * look + 1

-- the most steps of a verdict: four words more, of the settings
abbrev pub judge_bound : ℕ → ℕ
judge_bound look = 2 * look + 5
