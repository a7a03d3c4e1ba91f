use Rattle.std.proofs.Common.{◌≡◌, ◌≢◌, refl, ◌+◌, ◌-◌, ◌/◌, ◌^◌, ◌<◌, ◌≤◌, List, ℕ, Some, length, subst, sym, rules, ap, ◌∙◌, arith}
use Rattle.table_words.specs.Spans.{first_at, IsBoundary, IsEntryRange, IsFound, IsNotFound}
use Rattle.table_words.proofs.Halving.{reads_on}
use Rattle.table_words.proofs.Trying.{IsTurn, first_here, found_bounded, none_behind, none_bounded, none_elsewhere, other_is, owner_wider, rest_small, search_cost, span_rest, tried_more, tried_none}
use Rattle.table_words.proofs.owners.owner_mixed.Given.{Over}
use Rattle.table_words.proofs.owners.owner_mixed.Goals as goal
use Rattle.table_words.proofs.owners.owner_mixed.Goals.{After-lower_bound-from, After-first_word-first}

turn : (g : Over) (c : After-lower_bound-from g) →
    IsTurn (g.W.Words.list c.args.words.now) (c.args.found / 4294967296) c.args.want c.args.low c.args.high c.shapes.from c.shapes.least
    (c.shapes.steps - c.args.steps.now) c.lower_bound-from.result
turn g c = record {
  tried = c.shapes.invariant.tried;
  span = c.shapes.invariant.span;
  place = subst (λ (ws : List ℕ). IsBoundary ws c.shapes.from c.args.high c.shapes.least c.lower_bound-from.result) c.shapes.invariant.list c.lower_bound-from.ensures.place;
}

-- what the search of this turn cost
searched : (g : Over) (c : After-lower_bound-from g) → (d : ℕ) → c.args.high - c.args.low < 2 ^ d → c.lower_bound-from.new.steps ≤ c.shapes.steps + d
searched g c d size =
    let cost = search_cost (turn g c) _ d size c.lower_bound-from.ensures.cost in omega (arith, cost, c.lower_bound-from.ensures.later)

word_is : (g : Over) (c : After-first_word-first g) → c.first_word-first.result ≡ first_at (g.W.Words.list c.args.words.now) c.lower_bound-from.result
word_is g c =
    c.first_word-first.ensures.value ∙ ap (λ (ws : List ℕ). first_at ws c.lower_bound-from.result) (c.lower_bound-from.ensures.list ∙ c.shapes.invariant.list)

pub shapes-init : goal.shapes-init
shapes-init g c =
    record {
      span = c.requires.span;
      tried = tried_none _ _ _ _ _ c.args.steps.now;
      list = refl;
      reads = search rules;
      goes = g.met.W.Words.stays _;
      later = omega arith;
    }

pub lower_bound-from-requires : goal.lower_bound-from-requires
lower_bound-from-requires g c =
    subst (λ (ws : List ℕ). IsEntryRange ws c.shapes.from c.args.high) (sym c.shapes.invariant.list) c.shapes.invariant.span

pub first_word-first-requires-clause-within : goal.first_word-first-requires-clause-within
first_word-first-requires-clause-within g c =
    let size = ap length (c.lower_bound-from.ensures.list ∙ c.shapes.invariant.list) in
    omega (arith, size, c.shapes.invariant.span.within, c.if-from-high.false)

pub owner_like-requires-clause-span : goal.owner_like-requires-clause-span
owner_like-requires-clause-span g c =
    let list = c.first_word-first.ensures.list ∙ c.lower_bound-from.ensures.list ∙ c.shapes.invariant.list in
    subst (λ (ws : List ℕ). IsEntryRange ws c.lower_bound-from.result c.args.high) (sym list)
    (span_rest _ c.shapes.from _ _ c.shapes.invariant.span (omega (arith, c.if-from-high.false)))

pub returns-then-from-high-clause-none : goal.returns-then-from-high-clause-none
returns-then-from-high-clause-none g c =
    none_behind (turn g (goal.at.returns-then-from-high-clause-none g c).After-lower_bound-from) c.if-from-high.true

pub returns-then-from-high-clause-bound : goal.returns-then-from-high-clause-bound
returns-then-from-high-clause-bound g c =
    let t = (goal.at.returns-then-from-high-clause-bound g c).After-lower_bound-from in
    none_bounded (turn g t) c.args.steps.now c.lower_bound-from.new.steps (λ d size. omega (arith, searched g t d size, c.shapes.invariant.later))

pub returns-then-first-address-clause-none : goal.returns-then-first-address-clause-none
returns-then-first-address-clause-none g c =
    let at = goal.at.returns-then-first-address-clause-none g c in
    none_elsewhere (turn g at.After-lower_bound-from) c.if-from-high.false
    (subst (λ (n : ℕ). n / 4294967296 ≢ c.args.found / 4294967296) (word_is g at.After-first_word-first) c.if-first-address.true)

pub returns-then-first-address-clause-bound : goal.returns-then-first-address-clause-bound
returns-then-first-address-clause-bound g c =
    let t = (goal.at.returns-then-first-address-clause-bound g c).After-lower_bound-from in
    none_bounded (turn g t) c.args.steps.now c.first_word-first.new.steps
    (λ d size. omega (arith, searched g t d size, c.shapes.invariant.later, c.first_word-first.ensures.steps))

pub returns-in-Some-clause-owner : goal.returns-in-Some-clause-owner
returns-in-Some-clause-owner g c =
    let t = turn g (goal.at.returns-in-Some-clause-owner g c).After-lower_bound-from in
    let at = c.lower_bound-from.result in
    let word = c.first_word-first.result in
    let list = c.first_word-first.ensures.list ∙ c.lower_bound-from.ensures.list ∙ c.shapes.invariant.list in
    owner_wider (g.W.Words.list c.args.words.now) c.args.low c.args.high at c.args.high (c.args.found / 4294967296) c.args.want (first_here t) (omega arith)
    (Some c.in-Some.end) (record {
      first = word;
      address = c.if-first-address.false;
      found = subst (λ (ws : List ℕ). IsFound ws at c.args.high word c.args.want c.in-Some.end.0) list c.in-Some.ensures.owner;
    })

pub returns-in-Some-clause-bound : goal.returns-in-Some-clause-bound
returns-in-Some-clause-bound g c =
    let at = goal.at.returns-in-Some-clause-bound g c in
    let t = turn g at.After-lower_bound-from in
    let other = other_is t _ c.if-from-high.false (word_is g at.After-first_word-first) c.if-first-address.false c.requires.marked in
    let before = c.shapes.invariant.later in
    let tried = c.owner_like.ensures in
    found_bounded t other c.in-Some.end c.args.steps.now c.owner_like.new.steps
    (omega (arith, before, c.lower_bound-from.ensures.later, c.first_word-first.ensures.steps, tried.later))
    (λ d size. omega (arith, searched g at.After-lower_bound-from d size, tried.bound d (rest_small t d size), before, c.first_word-first.ensures.steps))

pub returns-in-Some-clause-goes : goal.returns-in-Some-clause-goes
returns-in-Some-clause-goes g c =
    let on = g.met.W.Words.goes_on in
    on _ _ _ (on _ _ _ (on _ _ _ c.shapes.invariant.goes c.lower_bound-from.ensures.goes) c.first_word-first.ensures.goes) c.owner_like.ensures.goes

pub shapes-preserved : goal.shapes-preserved
shapes-preserved g c =
    let i = c.shapes.invariant in
    let bounded = c.lower_bound-from.ensures in
    let read = c.first_word-first.ensures in
    let tested = c.owner_like.ensures in
    let at = goal.at.shapes-preserved g c in
    let t = turn g at.After-lower_bound-from in
    let other = other_is t _ c.if-from-high.false (word_is g at.After-first_word-first) c.if-first-address.false c.requires.marked in
    let list = read.list ∙ bounded.list ∙ i.list in
    record {
      span = span_rest _ c.shapes.from _ _ i.span (omega (arith, c.if-from-high.false));
      tried = tried_more t other (c.owner_like.new.steps - c.args.steps.now)
          (λ d size. omega (arith, searched g at.After-lower_bound-from d size, c.in_default.ensures.bound_none d (rest_small t d size), i.later, read.steps))
          (subst (λ (ws : List ℕ). IsNotFound ws c.lower_bound-from.result c.args.high c.first_word-first.result c.args.want) list c.in_default.ensures.none);
      list = tested.list ∙ list;
      reads = reads_on _ _ _ (c.first_word-first.new.steps - c.args.steps.now) _ _ (omega (arith, bounded.later, i.later, read.steps, tested.later))
          (reads_on _ _ _ (c.lower_bound-from.new.steps - c.args.steps.now) 1 _ (omega (arith, bounded.later, i.later, read.steps))
          (reads_on _ _ _ (c.shapes.steps - c.args.steps.now) _ _ (omega (arith, bounded.later, i.later)) i.reads bounded.reads) read.reads) tested.reads;
      goes = g.met.W.Words.goes_on _ _ _ (g.met.W.Words.goes_on _ _ _ (g.met.W.Words.goes_on _ _ _ i.goes bounded.goes) read.goes) tested.goes;
      later = omega (arith, bounded.later, i.later, read.steps, tested.later);
    }
