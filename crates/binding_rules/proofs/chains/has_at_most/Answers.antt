use Rattle.std.proofs.Common.{◌<◌, length, ap, subst, sym, ◌∙◌, arith}
use Rattle.binding_rules.specs.Scans.{ends_within}
use Rattle.binding_rules.proofs.Links.{IsWithin, within_next, ends_now, ends_next, reach_less}
use Rattle.binding_rules.proofs.chains.has_at_most.Goals as goal

pub returns-then-left-eq0-clause-few : goal.returns-then-left-eq0-clause-few
returns-then-left-eq0-clause-few g c = ends_now _ _ _ _ c.in-Some.is c.if-left-eq0.true ∙ c.chain.invariant.same

pub bounds-previous-place : goal.bounds-previous-place
bounds-previous-place g c =
    let within : c.in-Some.place < length c.args.bindings.now = subst (IsWithin c.args.bindings.now) c.in-Some.is c.chain.invariant.here in
    omega (arith, c.requires.linked.size, within)

pub chain-preserved : goal.chain-preserved
chain-preserved g c =
    let within : c.in-Some.place < length c.args.bindings.now = subst (IsWithin c.args.bindings.now) c.in-Some.is c.chain.invariant.here in
    record {
      here = within_next c.args.bindings.now c.args.previous.now c.in-Some.place c.requires.linked within;
      same = sym (ends_next c.args.previous.now c.chain.at c.in-Some.place c.chain.left c.in-Some.is c.if-left-eq0.false) ∙ c.chain.invariant.same;
      cost = omega (arith, c.tick.ensures, c.chain.invariant.cost, c.if-left-eq0.false);
    }

pub chain-smaller : goal.chain-smaller
chain-smaller g c =
    let within : c.in-Some.place < length c.args.bindings.now = subst (IsWithin c.args.bindings.now) c.in-Some.is c.chain.invariant.here in
    reach_less c.args.bindings.now c.args.previous.now c.chain.at c.in-Some.place c.requires.linked within c.in-Some.is

pub returns-clause-few : goal.returns-clause-few
returns-clause-few g c = sym (ap (λ o. ends_within c.args.previous.now o c.chain.left) c.in_default.is) ∙ c.chain.invariant.same
