use Rattle.std.proofs.Common.{List, ℕ, ap, ◌∙◌, arith}
use Rattle.table_words.specs.Spans.{first_at}
use Rattle.table_words.proofs.Ends.{none_before}
use Rattle.table_words.proofs.Digits.{few_halvings}
use Rattle.table_words.proofs.owners.owner_like.Goals as goal
use Rattle.table_words.proofs.owners.owner_like.Goals.{then-at-to-via-then-at-to, then-at-to-via-else-at-to+then-first_word-key}

pub returns-then-at-to-clause-bound_none : goal.returns-then-at-to-clause-bound_none
returns-then-at-to-clause-bound_none g c = λ d l.
    let s = c.place_of-at.ensures in
    let few = few_halvings _ _ d s.cost l in
    elim c.then-at-to.branch [
      | then-at-to-via-then-at-to w ↦ omega (arith, few, s.later, w.steps-is)
      | then-at-to-via-else-at-to+then-first_word-key w ↦ omega (arith, few, s.later, w.steps-is, w.first_word.ensures.steps)
    ]

pub returns-then-at-to-clause-bound : goal.returns-then-at-to-clause-bound
returns-then-at-to-clause-bound g c = λ d l.
    let h = returns-then-at-to-clause-bound_none g c d l in omega (arith, h)

pub returns-clause-bound : goal.returns-clause-bound
returns-clause-bound g c = λ d l.
    let s = c.place_of-at.ensures in
    let few = few_halvings _ _ d s.cost l in
    omega (arith, few, s.later, c.first_word.ensures.steps, c.tunnel_end.ensures.steps)

pub returns-then-at-to-clause-none : goal.returns-then-at-to-clause-none
returns-then-at-to-clause-none g c =
    let s = c.place_of-at.ensures in
    none_before (g.W.Words.list c.args.words.now) c.args.from c.args.to c.args.first c.in_ok-key.key c.place_of-at.result c.args.want
    c.requires.span s.place c.in_ok-key.ensures
    (λ l. elim c.then-at-to.branch [
      | then-at-to-via-then-at-to w ↦ absurd (omega arith)
      | then-at-to-via-else-at-to+then-first_word-key w ↦
          (λ same. w.if-first_word-key.true (w.first_word.ensures.value ∙ ap (λ (ws : List ℕ). first_at ws c.place_of-at.result) s.list ∙ same))
    ])
