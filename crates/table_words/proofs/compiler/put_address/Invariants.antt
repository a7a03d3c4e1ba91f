use Rattle.std.proofs.Common.{◌≡◌, ◌++◌, drop}
use Rattle.table_words.specs.Parts.{entry_words}
use Rattle.table_words.proofs.compiler.put_address.Given as goal

abbrev pub invariant-rows : goal.invariant-rows
invariant-rows l = l.words.items ++ entry_words (λ _. l.mixed) (drop l.row-index l.rows) ≡ l.initial.words.items ++ entry_words (λ _. l.mixed) l.rows
