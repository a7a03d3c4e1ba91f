use Rattle.std.proofs.Common.{◌-◌, ◌*◌, List, ℕ, subst, sym, ap, ◌∙◌, arith}
use Rattle.std.proofs.lemmas.Bool.{le-ltb}
use Rattle.table_words.specs.Spans.{first_at, IsBoundary}
use Rattle.table_words.proofs.Halving.{reads_on}
use Rattle.table_words.proofs.Trying.{address_here, address_none, address_cost}
use Rattle.table_words.proofs.lookups.has_address.Goals as goal

pub returns-then-at-group : goal.returns-then-at-group
returns-then-at-group g c =
    let grouped = c.group_of-group.ensures in
    let bounded = c.lower_bound-at.ensures in
    let read = c.first_word.ensures in
    let words = g.W.Words.list c.args.words.now in
    let from = c.group_of-group.result.from in
    let to = c.group_of-group.result.to in
    let at = c.lower_bound-at.result in
    let place = subst (λ (k : ℕ). IsBoundary words from to (k * 4294967296) at) c.from-address.ensures
    (subst (λ (ws : List ℕ). IsBoundary ws from to (c.from-address.result * 4294967296) at) grouped.list bounded.place) in
    let word = read.value ∙ ap (λ (ws : List ℕ). first_at ws at) (bounded.list ∙ grouped.list) in
    record {
      answer = λ t h. rw c.from-address.ensures
          (address_here t words c.args.v4 from to at grouped.span (grouped.group t h) place c.if-at-group.true c.first_word.result word);
      bound = λ t h.
          let cost = address_cost t words c.args.v4 from to at grouped.span (grouped.group t h) place _ bounded.cost in
          omega (arith, cost, grouped.steps, bounded.later, read.steps);
      list = read.list ∙ bounded.list ∙ grouped.list;
      reads = reads_on _ _ _ (c.lower_bound-at.new.steps - c.args.steps.now) 1 _ (omega (arith, read.steps, bounded.later, grouped.steps))
          (reads_on _ _ _ 2 _ _ (omega (arith, bounded.later, grouped.steps)) grouped.reads bounded.reads) read.reads;
      goes = g.met.W.Words.goes_on _ _ _ (g.met.W.Words.goes_on _ _ _ grouped.goes bounded.goes) read.goes;
      later = omega (arith, grouped.steps, bounded.later, read.steps);
      rises = omega (arith, grouped.steps, bounded.later, read.steps);
    }

pub returns-else-at-group : goal.returns-else-at-group
returns-else-at-group g c =
    let grouped = c.group_of-group.ensures in
    let bounded = c.lower_bound-at.ensures in
    let words = g.W.Words.list c.args.words.now in
    let from = c.group_of-group.result.from in
    let to = c.group_of-group.result.to in
    let at = c.lower_bound-at.result in
    let place = subst (λ (k : ℕ). IsBoundary words from to (k * 4294967296) at) c.from-address.ensures
    (subst (λ (ws : List ℕ). IsBoundary ws from to (c.from-address.result * 4294967296) at) grouped.list bounded.place) in
    record {
      answer = λ t h. rw (le-ltb at to c.if-at-group.false)
          (sym (address_none t words c.args.v4 from to at grouped.span (grouped.group t h) place c.if-at-group.false));
      bound = λ t h.
          let cost = address_cost t words c.args.v4 from to at grouped.span (grouped.group t h) place _ bounded.cost in
          omega (arith, cost, grouped.steps, bounded.later);
      list = bounded.list ∙ grouped.list;
      reads = reads_on _ _ _ 2 _ _ (omega (arith, bounded.later, grouped.steps)) grouped.reads bounded.reads;
      goes = g.met.W.Words.goes_on _ _ _ grouped.goes bounded.goes;
      later = omega (arith, grouped.steps, bounded.later);
      rises = omega (arith, grouped.steps, bounded.later);
    }
