use Rattle.table_words.proofs.Compiling.{sorted_ascends}
use Rattle.table_words.proofs.compiler.rows_of.Goals as goal

pub returns-clause-ascending : goal.returns-clause-ascending
returns-clause-ascending c = sorted_ascends _ c.sort_unstable.ensures.sorted
