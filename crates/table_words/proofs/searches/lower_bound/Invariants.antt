use Rattle.std.proofs.Common.{◌≡◌, ℕ, ◌+◌, ◌-◌, ◌*◌, ◌^◌, ◌<◌, ◌≤◌}
use Rattle.table_words.specs.Reads.{read_more}
use Rattle.table_words.specs.Spans.{first_at}
use Rattle.table_words.proofs.searches.lower_bound.Given as goal

abbrev pub decreases-search : goal.decreases-search
decreases-search g l = l.high - l.low

abbrev pub invariant-search : goal.invariant-search
invariant-search g l = record {
  from_on : l.from ≤ l.low;
  ordered : l.low ≤ l.high;
  up_to : l.high ≤ l.to;
  below : (e : ℕ) → l.from ≤ e → e < l.low → first_at (g.W.Words.list l.words) e < l.key;
  above : (e : ℕ) → l.high ≤ e → e < l.to → l.key ≤ first_at (g.W.Words.list l.words) e;
  halved : 2 ^ (l.steps - l.initial.steps) * (l.high - l.low) ≤ l.to - l.from;
  cost : 2 ^ (l.steps - l.initial.steps) ≤ 2 * (l.to - l.from) + 1;
  list : g.W.Words.list l.words ≡ g.W.Words.list l.initial.words;
  reads : g.W.Words.reads l.words ≡ read_more (g.W.Words.reads l.initial.words) (l.steps - l.initial.steps);
  goes : g.W.Words.goes l.initial.words l.words;
  later : l.initial.steps ≤ l.steps;
}
