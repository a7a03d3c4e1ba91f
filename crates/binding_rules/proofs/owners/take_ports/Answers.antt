use Rattle.std.proofs.Common.{refl, sym, ◌∙◌, rules, arith, length-append, [], ◌∷◌}
use Rattle.binding_rules.proofs.Slots.{taken_none, taken_more, taken_all, given_more, given_all, members_moved}
use Rattle.binding_rules.proofs.owners.take_ports.Goals as goal

pub ports-init : goal.ports-init
ports-init g c = record { all = refl; cost = omega arith; taken = taken_none c.args.place c.args.owners.now }

pub ports-preserved : goal.ports-preserved
ports-preserved g c = record {
  all = given_more _ _ _ _ c.in-Some.port c.ports.invariant.all c.in-Some.ensures.steps;
  cost = omega (arith, c.tick.ensures, c.ports.invariant.cost, length-append c.ports.yielded (c.in-Some.port ∷ []));
  taken = rw c.from.ensures (taken_more c.ports.yielded c.in-Some.port c.args.place _ c.ports.owners (search (rules, arith)) c.ports.invariant.taken);
}

pub returns-in-None-clause-taken : goal.returns-in-None-clause-taken
returns-in-None-clause-taken g c =
    let all = given_all _ _ _ c.ports.invariant.all c.in-None.ensures.steps.0 in
    taken_all c.ports.yielded c.args.binding c.args.place _ c.ports.owners
    (members_moved _ c.ports.yielded _ _ c.args.binding c.in-Ok.ensures.numbers
    (sym c.into_iter-port-iterator.ensures.into_iter_gives ∙ all) c.ports_of-port-items.ensures.members)
    c.ports.invariant.taken
