use Rattle.std.proofs.Common.{◌≡◌, ◌+◌, false, ◌<◌, Some, length, subst, arith}
use Rattle.std.proofs.lemmas.Option.{slice_get-get_or}
use Rattle.binding_rules.specs.Scans.{slot}
use Rattle.binding_rules.proofs.Counts.{all_to_come, step_at, remaining}
use Rattle.binding_rules.proofs.Links.{IsOf, of_within, at_address_of}
use Rattle.binding_rules.proofs.Pairs.{IsWalked, walked_none, walked_next, walked_all}
use Rattle.binding_rules.proofs.conflicts.shared_pair.Goals as goal

pub chain-init : goal.chain-init
chain-init g c = record {
  walked = walked_none _ _ _ _ _ c.requires.last c.requires.fresh;
  cost = omega (arith, all_to_come c.args.bindings.now c.args.v4.0 (Some c.args.last));
}

pub meet-met-requires-clause-shape : goal.meet-met-requires-clause-shape
meet-met-requires-clause-shape g c =
    let here = subst (IsOf c.args.bindings.now c.args.v4.0) c.in-Some.is c.chain.invariant.walked.here in
    let there = slice_get-get_or c.args.bindings.now c.in-Some.place _ (of_within _ c.args.v4.0 _ here) in
    (c.requires.well c.in-Some.place _ there).shape

pub meet-met-requires-clause-psid : goal.meet-met-requires-clause-psid
meet-met-requires-clause-psid g c =
    let here = subst (IsOf c.args.bindings.now c.args.v4.0) c.in-Some.is c.chain.invariant.walked.here in
    let there = slice_get-get_or c.args.bindings.now c.in-Some.place _ (of_within _ c.args.v4.0 _ here) in
    (c.requires.well c.in-Some.place _ there).psid

pub bounds-previous-place : goal.bounds-previous-place
bounds-previous-place g c =
    let here = subst (IsOf c.args.bindings.now c.args.v4.0) c.in-Some.is c.chain.invariant.walked.here in
    let within : c.in-Some.place < length c.args.bindings.now = of_within _ c.args.v4.0 _ here in
    omega (arith, c.requires.linked.size, within)

pub chain-preserved : goal.chain-preserved
chain-preserved g c =
    let bs = c.args.bindings.now in
    let a = c.args.v4.0 in
    let walked = subst (λ o. IsWalked false bs a o c.args.owners.now c.chain.owners c.chain.best) c.in-Some.is c.chain.invariant.walked in
    let there = slice_get-get_or bs c.in-Some.place _ (of_within bs a _ walked.here) in
    let less : remaining bs a c.chain.at ≡ 1 + remaining bs a (slot c.args.previous.now c.in-Some.place) = step_at bs c.args.previous.now a c.in-Some.place c.chain.at c.requires.linked walked.here c.in-Some.is in
    record {
      cost = omega (arith, less, c.meet-met.ensures.cost, c.chain.invariant.cost);
      walked = rw (c.earlier-best.ensures, c.pair_of.ensures)
          (walked_next false bs a c.in-Some.place _ c.chain.owners there (at_address_of bs a _ _ there walked.here) walked.slots
          c.args.previous.now c.args.owners.now c.meet-met.new.owners c.chain.best c.meet-met.result c.requires.linked walked.first walked.names
          c.meet-met.ensures.least c.meet-met.ensures.taken);
    }

pub returns-clause-first : goal.returns-clause-first
returns-clause-first g c = walked_all _ _ _ _ _ _ _ c.in_default.is c.chain.invariant.walked
