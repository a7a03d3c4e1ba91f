use Rattle.std.proofs.Common.{◌≡◌, ℕ, ◌+◌, ◌-◌, ◌*◌, ◌/◌, ◌^◌, ◌<◌, ◌≤◌, ◌⊎◌}
use Rattle.table_words.specs.Reads.{read_more}
use Rattle.table_words.specs.Spans.{first_at}
use Rattle.table_words.proofs.probes.spot_of.Given as goal

abbrev pub decreases-search : goal.decreases-search
decreases-search g l = l.high - l.low

abbrev pub invariant-search : goal.invariant-search
invariant-search g l = record {
  from_on : l.initial.low ≤ l.low;
  ordered : l.low ≤ l.high;
  up_to : l.high ≤ l.initial.high;
  low_at : l.low < l.high → l.low ≤ l.at;
  high_at : l.low < l.high → l.at < l.high;
  below : (e : ℕ) → l.initial.low ≤ e → e < l.low → first_at (g.W.Words.list l.words) e < l.least;
  above : (e : ℕ) → l.high ≤ e → e < l.initial.high → l.most < first_at (g.W.Words.list l.words) e;
  middle : (l.steps ≡ l.initial.steps) ⊎ (l.at ≡ l.low + (l.high - l.low) / 2);
  halved : 2 ^ (l.steps - (l.initial.steps + 1)) * (l.high - l.low) ≤ l.initial.high - l.initial.low;
  cost : 2 ^ (l.steps - (l.initial.steps + 1)) ≤ 2 * (l.initial.high - l.initial.low) + 1;
  list : g.W.Words.list l.words ≡ g.W.Words.list l.initial.words;
  reads : g.W.Words.reads l.words ≡ read_more (g.W.Words.reads l.initial.words) (l.steps - l.initial.steps);
  goes : g.W.Words.goes l.initial.words l.words;
  later : l.initial.steps ≤ l.steps;
}
