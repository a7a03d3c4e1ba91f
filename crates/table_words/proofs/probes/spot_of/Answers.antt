use Rattle.std.proofs.Common.{suc, ◌+◌, ◌-◌, ◌*◌, ◌<◌, ◌≤◌, ◌≢◌, refl, inl, inr, ◌∙◌, arith}
use Rattle.table_words.specs.Spans.{first_at}
use Rattle.table_words.proofs.Halving.{probed_more, IsHalved, reads_on, all_below, all_above}
use Rattle.table_words.proofs.probes.spot_of.Goals as goal
use Rattle.table_words.proofs.probes.spot_of.Goals.{then-first-least, else-first-least+then-first-most}

pub returns-else-first-most-clause-cost : goal.returns-else-first-most-clause-cost
returns-else-first-most-clause-cost g c =
    let i = c.search.invariant in
    let h : IsHalved (c.search.steps + 1) (c.args.steps.now + 1) 0 (c.args.reach.high - c.args.reach.low) =
    probed_more c.search.steps c.args.steps.now (c.search.high - c.search.low) 0 _ i.later (omega (arith, c.search-test.true)) (omega arith) (λ _. omega arith) i.halved in
    rw c.first_word-first.ensures.steps h.cost

pub search-preserved : goal.search-preserved
search-preserved g c =
    let i = c.search.invariant in
    let f = c.first_word-first.ensures in
    let at = c.search.at in
    let list = f.list ∙ i.list in
    let inside = i.high_at c.search-test.true in
    let after = i.low_at c.search-test.true in
    elim c.if-first-least.branch [
      | then-first-least w ↦
          (let here : first_at (g.W.Words.list c.args.words.now) at < c.args.least = rw (← i.list) (rw (← f.value) w.if-first-least.true) in
          let half : c.search.steps ≢ c.args.steps.now → 2 * (c.search.high - (at + 1)) ≤ c.search.high - c.search.low =
          λ probed. elim i.middle [ inl none ↦ absurd (probed none) | inr m ↦ omega (arith, m, inside, after) ] in
          let h : IsHalved (c.search.steps + 1) (c.args.steps.now + 1) (c.search.high - (at + 1)) (c.args.reach.high - c.args.reach.low) =
          probed_more c.search.steps c.args.steps.now (c.search.high - c.search.low) _ _ i.later (omega (arith, c.search-test.true)) (omega (arith, after)) half i.halved in
          rw (w.low-is, w.high-is) record {
            from_on = omega (arith, i.from_on, after);
            ordered = omega (arith, inside);
            up_to = i.up_to;
            low_at = λ l. omega (arith, l);
            high_at = λ l. omega (arith, l);
            below = λ e l m. rw list (all_below _ _ _ c.args.least at c.requires.span (omega (arith, inside, i.up_to)) here e m);
            above = λ e l m. rw f.list (i.above e l m);
            middle = inr refl;
            halved = rw f.steps h.halved;
            cost = rw f.steps h.cost;
            list = list;
            reads = reads_on _ _ _ (c.search.steps - c.args.steps.now) 1 _ (omega (arith, f.steps, i.later)) i.reads f.reads;
            goes = g.met.W.Words.goes_on _ _ _ i.goes f.goes;
            later = omega (arith, f.steps, i.later);
          })
      | else-first-least+then-first-most w ↦
          (let here : c.args.most < first_at (g.W.Words.list c.args.words.now) at = rw (← i.list) (rw (← f.value) w.if-first-most.true) in
          let half : c.search.steps ≢ c.args.steps.now → 2 * (at - c.search.low) ≤ c.search.high - c.search.low =
          λ probed. elim i.middle [ inl none ↦ absurd (probed none) | inr m ↦ omega (arith, m, inside, after) ] in
          let h : IsHalved (c.search.steps + 1) (c.args.steps.now + 1) (at - c.search.low) (c.args.reach.high - c.args.reach.low) =
          probed_more c.search.steps c.args.steps.now (c.search.high - c.search.low) _ _ i.later (omega (arith, c.search-test.true)) (omega (arith, inside)) half i.halved in
          rw (w.low-is, w.high-is) record {
            from_on = i.from_on;
            ordered = after;
            up_to = omega (arith, i.up_to, inside);
            low_at = λ l. omega (arith, l);
            high_at = λ l. omega (arith, l);
            below = λ e l m. rw f.list (i.below e l m);
            above = λ e l m. rw list (all_above _ _ _ (suc c.args.most) at c.requires.span (omega (arith, inside, i.up_to)) here e l m);
            middle = inr refl;
            halved = rw f.steps h.halved;
            cost = rw f.steps h.cost;
            list = list;
            reads = reads_on _ _ _ (c.search.steps - c.args.steps.now) 1 _ (omega (arith, f.steps, i.later)) i.reads f.reads;
            goes = g.met.W.Words.goes_on _ _ _ i.goes f.goes;
            later = omega (arith, f.steps, i.later);
          })
    ]
