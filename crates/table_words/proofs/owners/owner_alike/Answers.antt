use Rattle.std.proofs.Common.{◌+◌, ◌-◌, arith}
use Rattle.table_words.proofs.Alike.{span_part, no_owner_by_shape, no_owner_by_key}
use Rattle.table_words.proofs.Digits.{few_halvings}
use Rattle.table_words.proofs.Trying.{if_none}
use Rattle.table_words.proofs.owners.owner_alike.Goals as goal

pub returns-in_err-key-clause-none : goal.returns-in_err-key-clause-none
returns-in_err-key-clause-none g c =
    let s = c.args.spot in
    if_none _ _ (no_owner_by_shape (g.W.Words.list c.args.words.now) s.low s.high s.at s.first c.args.want c.requires.span c.requires.here c.requires.alike c.in_err-key.ensures)

pub spot_of-requires-clause-span : goal.spot_of-requires-clause-span
spot_of-requires-clause-span g c =
    let reach = c.reach_of_key.ensures in
    span_part _ c.args.spot.low c.args.spot.high _ _ c.requires.span reach.ordered reach.up_to

pub returns-in_err-owner-clause-none : goal.returns-in_err-owner-clause-none
returns-in_err-owner-clause-none g c =
    let s = c.args.spot in
    let r = c.reach_of_key.result in
    if_none _ _ (no_owner_by_key (g.W.Words.list c.args.words.now) s.low s.high s.at s.first c.args.want c.requires.span c.requires.here c.requires.alike
    c.in_ok-key.key r.low r.high r.guess c.in_ok-key.ensures c.reach_of_key.ensures c.in_err-owner.ensures.none)

pub returns-in_err-owner-clause-bound : goal.returns-in_err-owner-clause-bound
returns-in_err-owner-clause-bound g c = λ d l.
    let reach = c.reach_of_key.ensures in
    let few = few_halvings (c.spot_of.new.steps - (c.args.steps.now + 1)) (c.reach_of_key.result.high - c.reach_of_key.result.low) d c.spot_of.ensures.cost
    (omega (arith, l, reach.from_on, reach.up_to)) in
    omega (arith, few)

pub returns-clause-bound : goal.returns-clause-bound
returns-clause-bound g c = λ d l.
    let reach = c.reach_of_key.ensures in
    let few = few_halvings (c.spot_of.new.steps - (c.args.steps.now + 1)) (c.reach_of_key.result.high - c.reach_of_key.result.low) d c.spot_of.ensures.cost
    (omega (arith, l, reach.from_on, reach.up_to)) in
    omega (arith, few, c.tunnel_end.ensures.steps)
