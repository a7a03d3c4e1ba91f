use Rattle.std.proofs.Common.{◌≡◌, ◌+◌, ◌<◌, ◌≤◌, Some, length, subst, sym, ap, arith}
use Rattle.binding_rules.specs.Scans.{IsLast, slot}
use Rattle.binding_rules.specs.Steps.{count_of}
use Rattle.binding_rules.proofs.Counts.{all_to_come, few_bindings, step_at, remaining}
use Rattle.binding_rules.proofs.Links.{IsOf, of_within, at_address_of, read, read_is, reach_less}
use Rattle.binding_rules.proofs.Pairs.{IsCompared, compared_none, compared_next, compared_all}
use Rattle.binding_rules.proofs.conflicts.compared_pair.Goals as goal

pub chain-init : goal.chain-init
chain-init g c = record {
  walked = compared_none _ _ _ c.requires.last;
  cost = omega (arith, all_to_come c.args.bindings.now c.args.v4.0 (Some c.args.last));
}

pub bounds-bindings-place : goal.bounds-bindings-place
bounds-bindings-place g c = of_within _ c.args.v4.0 _ (subst (IsOf c.args.bindings.now c.args.v4.0) c.in-Some.is c.chain.invariant.walked.here)

pub least_common-met-requires-clause-last : goal.least_common-met-requires-clause-last
least_common-met-requires-clause-last g c =
    let bs = c.args.bindings.now in
    let here = subst (IsOf bs c.args.v4.0) c.in-Some.is c.chain.invariant.walked.here in
    let there = read_is bs c.in-Some.place (of_within bs c.args.v4.0 _ here) in
    subst (λ v. IsLast bs v c.args.last) (sym (at_address_of bs c.args.v4.0 _ _ there here)) c.requires.last

pub least_common-met-requires-clause-there : goal.least_common-met-requires-clause-there
least_common-met-requires-clause-there g c =
    let here = subst (IsOf c.args.bindings.now c.args.v4.0) c.in-Some.is c.chain.invariant.walked.here in
    read_is c.args.bindings.now c.in-Some.place (of_within _ c.args.v4.0 _ here)

pub bounds-previous-place : goal.bounds-previous-place
bounds-previous-place g c =
    let here = subst (IsOf c.args.bindings.now c.args.v4.0) c.in-Some.is c.chain.invariant.walked.here in
    let within : c.in-Some.place < length c.args.bindings.now = of_within _ c.args.v4.0 _ here in
    omega (arith, c.requires.linked.size, within)

pub chain-smaller : goal.chain-smaller
chain-smaller g c =
    let here = subst (IsOf c.args.bindings.now c.args.v4.0) c.in-Some.is c.chain.invariant.walked.here in
    reach_less c.args.bindings.now c.args.previous.now c.chain.at c.in-Some.place c.requires.linked (of_within _ c.args.v4.0 _ here) c.in-Some.is

pub chain-preserved : goal.chain-preserved
chain-preserved g c =
    let bs = c.args.bindings.now in
    let a = c.args.v4.0 in
    let walked = subst (λ o. IsCompared bs a o c.chain.best) c.in-Some.is c.chain.invariant.walked in
    let there = read_is bs c.in-Some.place (of_within bs a _ walked.here) in
    let less : remaining bs a c.chain.at ≡ 1 + remaining bs a (slot c.args.previous.now c.in-Some.place) = step_at bs c.args.previous.now a c.in-Some.place c.chain.at c.requires.linked walked.here c.in-Some.is in
    let few : count_of a bs ≤ 256 = few_bindings bs c.args.previous.now a c.args.last 256 c.requires.linked c.requires.last c.requires.few in
    let same : count_of (read bs c.in-Some.place).v4.0 bs ≡ count_of a bs = ap (λ v. count_of v bs) (at_address_of bs a _ _ there walked.here) in
    record {
      cost = omega (arith, less, few, same, c.least_common-met.ensures.cost, c.chain.invariant.cost);
      walked = rw (c.earlier-best.ensures, c.pair_of.ensures)
          (compared_next bs c.args.previous.now a c.in-Some.place (read bs c.in-Some.place) c.chain.best c.least_common-met.result c.requires.linked there
          (at_address_of bs a _ _ there walked.here) walked c.least_common-met.ensures.least);
    }

pub returns-clause-first : goal.returns-clause-first
returns-clause-first g c = compared_all _ _ _ _ c.in_default.is c.chain.invariant.walked

pub returns-clause-cost : goal.returns-clause-cost
returns-clause-cost g c =
    let few : count_of c.args.v4.0 c.args.bindings.now ≤ 256 = few_bindings c.args.bindings.now c.args.previous.now c.args.v4.0 c.args.last 256 c.requires.linked c.requires.last c.requires.few in
    omega (arith, few, c.chain.invariant.cost)
