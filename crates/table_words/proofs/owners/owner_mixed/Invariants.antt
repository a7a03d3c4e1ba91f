use Rattle.std.proofs.Common.{◌≡◌, ◌-◌, ◌/◌, ◌≤◌}
use Rattle.table_words.specs.Reads.{read_more}
use Rattle.table_words.specs.Spans.{IsEntryRange}
use Rattle.table_words.specs.Tried.{AreTried}
use Rattle.table_words.proofs.owners.owner_mixed.Given as goal

abbrev pub invariant-shapes : goal.invariant-shapes
invariant-shapes g l = record {
  span : IsEntryRange (g.W.Words.list l.fn.words) l.from l.high;
  tried : AreTried (g.W.Words.list l.fn.words) (l.found / 4294967296) l.fn.want l.low l.high l.from l.least (l.steps - l.fn.steps);
  list : g.W.Words.list l.words ≡ g.W.Words.list l.fn.words;
  reads : g.W.Words.reads l.words ≡ read_more (g.W.Words.reads l.fn.words) (l.steps - l.fn.steps);
  goes : g.W.Words.goes l.fn.words l.words;
  later : l.fn.steps ≤ l.steps;
}

abbrev pub decreases-shapes : goal.decreases-shapes
decreases-shapes g l = 18446744073709551616 - l.least
