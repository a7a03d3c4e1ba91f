use Rattle.std.proofs.Common.{sym, ◌∙◌, arith, length-append, [], ◌∷◌}
use Rattle.binding_rules.proofs.Slots.{named_more, named_all, given_more, given_all, members_moved}
use Rattle.binding_rules.proofs.owners.least_of_ports.Goals as goal

pub ports-preserved : goal.ports-preserved
ports-preserved g c = record {
  all = given_more _ _ _ _ c.in-Some.port c.ports.invariant.all c.in-Some.ensures.steps;
  cost = omega (arith, c.tick.ensures, c.ports.invariant.cost, length-append c.ports.yielded (c.in-Some.port ∷ []));
  least = rw (c.lesser-met.ensures, c.owner_of.ensures, c.from.ensures)
      (named_more c.ports.yielded c.in-Some.port _ _ _ c.ports.met c.ports.invariant.least);
}

pub returns-in-None-clause-least : goal.returns-in-None-clause-least
returns-in-None-clause-least g c =
    let all = given_all _ _ _ c.ports.invariant.all c.in-None.ensures.steps.0 in
    named_all c.ports.yielded c.args.binding _ _ _ c.ports.met
    (members_moved _ c.ports.yielded _ _ c.args.binding c.in-Ok.ensures.numbers
    (sym c.into_iter-port-iterator.ensures.into_iter_gives ∙ all) c.ports_of-port-items.ensures.members)
    c.ports.invariant.least
