use Rattle.std.proofs.Common.{ℕ, List, ◌+◌, ◌*◌, ◌-◌, subst, arith}
use Rattle.std.specs.Prelude.{IfSome, IfNone}
use Rattle.table_words.specs.Spans.{IsSpot, HasNoSpot}
use Rattle.table_words.proofs.Digits.{few_halvings}
use Rattle.table_words.proofs.Spots.{spot_left}
use Rattle.table_words.proofs.probes.spot_of_address.Goals as goal

pub returns-clause-spot : goal.returns-clause-spot
returns-clause-spot g c =
    let o = c.spot_of.result in
    subst (λ (a : ℕ). IfSome o (λ s. IsSpot (g.W.Words.list c.args.words.now) c.args.from c.args.to (a * 4294967296)
    (a * 4294967296 + 4294967295) s.low s.high s.at s.first)) c.from-least.ensures
    (subst (λ (ws : List ℕ). IfSome o (λ s. IsSpot ws c.args.from c.args.to (c.from-least.result * 4294967296)
    (c.from-least.result * 4294967296 + 4294967295) s.low s.high s.at s.first))
    c.guess_of-guess.ensures.list c.spot_of.ensures.spot)

pub returns-clause-none : goal.returns-clause-none
returns-clause-none g c =
    let o = c.spot_of.result in
    subst (λ (a : ℕ). IfNone o (HasNoSpot (g.W.Words.list c.args.words.now) c.args.from c.args.to (a * 4294967296)
    (a * 4294967296 + 4294967295))) c.from-least.ensures
    (subst (λ (ws : List ℕ). IfNone o (HasNoSpot ws c.args.from c.args.to (c.from-least.result * 4294967296) (c.from-least.result * 4294967296 + 4294967295)))
    c.guess_of-guess.ensures.list c.spot_of.ensures.none)

pub returns-clause-left : goal.returns-clause-left
returns-clause-left g c =
    spot_left c.spot_of.result _ c.args.from c.args.to _ _ c.args.steps.now c.guess_of-guess.new.steps c.spot_of.new.steps c.spot_of.ensures.spot c.spot_of.ensures.halved
    c.guess_of-guess.ensures.cost c.guess_of-guess.ensures.later c.spot_of.ensures.later

pub returns-clause-cost : goal.returns-clause-cost
returns-clause-cost g c = λ d small.
    let few = few_halvings (c.spot_of.new.steps - (c.guess_of-guess.new.steps + 1)) (c.args.to - c.args.from) d c.spot_of.ensures.cost small in
    omega (arith, few, c.guess_of-guess.ensures.cost)
