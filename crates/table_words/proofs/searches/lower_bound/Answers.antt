use Rattle.std.proofs.Common.{◌+◌, ◌-◌, ◌/◌, ◌<◌, ◌≤◌, ◌∙◌, arith}
use Rattle.table_words.specs.Spans.{first_at}
use Rattle.table_words.proofs.Halving.{halved_more, IsHalved, reads_on, all_below, all_above}
use Rattle.table_words.proofs.searches.lower_bound.Goals as goal

pub search-preserved-then-first_word-key : goal.search-preserved-then-first_word-key
search-preserved-then-first_word-key g c =
    let i = c.search.invariant in
    let f = c.first_word.ensures in
    let middle = c.search.low + (c.search.high - c.search.low) / 2 in
    let list = f.list ∙ i.list in
    let here : first_at (g.W.Words.list c.args.words.now) middle < c.args.key = rw (← i.list) (rw (← f.value) c.if-first_word-key.true) in
    let h : IsHalved (c.search.steps + 1) c.args.steps.now (c.search.high - (middle + 1)) (c.args.to - c.args.from) =
    halved_more c.search.steps c.args.steps.now (c.search.high - c.search.low) _ _ i.later (omega arith) (omega arith) i.halved in
    record {
      from_on = omega arith;
      ordered = omega arith;
      up_to = i.up_to;
      below = λ e l m. rw list (all_below _ _ _ c.args.key middle c.requires (omega arith) here e m);
      above = λ e l m. rw f.list (i.above e l m);
      halved = rw f.steps h.halved;
      cost = rw f.steps h.cost;
      list = list;
      reads = reads_on _ _ _ (c.search.steps - c.args.steps.now) 1 _ (omega (arith, f.steps, i.later)) i.reads f.reads;
      goes = g.met.W.Words.goes_on _ _ _ i.goes f.goes;
      later = omega (arith, f.steps, i.later);
    }

pub search-preserved : goal.search-preserved
search-preserved g c =
    let i = c.search.invariant in
    let f = c.first_word.ensures in
    let middle = c.search.low + (c.search.high - c.search.low) / 2 in
    let list = f.list ∙ i.list in
    let here : c.args.key ≤ first_at (g.W.Words.list c.args.words.now) middle = rw (← i.list) (rw (← f.value) c.if-first_word-key.false) in
    let h : IsHalved (c.search.steps + 1) c.args.steps.now (middle - c.search.low) (c.args.to - c.args.from) =
    halved_more c.search.steps c.args.steps.now (c.search.high - c.search.low) _ _ i.later (omega arith) (omega arith) i.halved in
    record {
      from_on = i.from_on;
      ordered = omega arith;
      up_to = omega arith;
      below = λ e l m. rw f.list (i.below e l m);
      above = λ e l m. rw list (all_above _ _ _ c.args.key middle c.requires (omega arith) here e l m);
      halved = rw f.steps h.halved;
      cost = rw f.steps h.cost;
      list = list;
      reads = reads_on _ _ _ (c.search.steps - c.args.steps.now) 1 _ (omega (arith, f.steps, i.later)) i.reads f.reads;
      goes = g.met.W.Words.goes_on _ _ _ i.goes f.goes;
      later = omega (arith, f.steps, i.later);
    }
