use Rattle.std.proofs.Common.{◌≡◌, ◌+◌, Some, ap, ◌∙◌, arith}
use Rattle.binding_rules.proofs.Counts.{all_to_come, step_down, remaining}
use Rattle.binding_rules.proofs.Links.{head_down, head_is}
use Rattle.binding_rules.proofs.chains.head_of.Goals as goal

pub chain-init : goal.chain-init
chain-init g c = record {
  within = c.requires.within;
  same = λ a h. h;
  cost = λ a h. omega (arith, all_to_come c.args.bindings.now a (Some c.args.last));
}

pub chain-smaller : goal.chain-smaller
chain-smaller g c = (head_down _ _ _ _ c.requires.linked c.chain.invariant.within c.in-Some.is).0

pub chain-preserved : goal.chain-preserved
chain-preserved g c =
    let down = head_down _ _ _ _ c.requires.linked c.chain.invariant.within c.in-Some.is in
    record {
      within = omega (arith, down.0, c.chain.invariant.within);
      same = λ a h. down.1 a (c.chain.invariant.same a h);
      cost = λ a h. (let less : remaining c.args.bindings.now a (Some c.chain.place) ≡ 1 + remaining c.args.bindings.now a (Some c.in-Some.earlier) =
          step_down c.args.bindings.now c.args.previous.now a c.chain.place c.requires.linked (c.chain.invariant.same a h) ∙ ap (λ o. 1 + remaining c.args.bindings.now a o) c.in-Some.is in
          omega (arith, less, c.tick.ensures, c.chain.invariant.cost a h));
    }

pub returns-clause-head : goal.returns-clause-head
returns-clause-head g c = λ a h. head_is _ _ a _ c.requires.linked c.in_default.is (c.chain.invariant.same a h)

pub returns-clause-cost : goal.returns-clause-cost
returns-clause-cost g c = λ a h. omega (arith, c.chain.invariant.cost a h)
