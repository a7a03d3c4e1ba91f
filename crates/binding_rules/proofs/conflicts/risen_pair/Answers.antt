use Rattle.std.proofs.Common.{◌≡◌, ◌+◌, ◌<◌, true, length, subst, arith}
use Rattle.binding_rules.proofs.Links.{IsOf, of_within, at_address_of, read, read_is}
use Rattle.binding_rules.proofs.Rising.{IsRisenTo, risen_first, risen_names, risen_next, risen_up, risen_found, risen_all}
use Rattle.binding_rules.specs.Steps.{port_steps}
use Rattle.binding_rules.proofs.Taken.{ports_most, taken, taken_most, taken_next}
use Rattle.binding_rules.proofs.Upwards.{following_of, following_is_of, left_less}
use Rattle.binding_rules.proofs.conflicts.risen_pair.Goals as goal

pub chain-init : goal.chain-init
chain-init g c = record { here = c.requires.head.0; risen = risen_first true _ _ _ _ c.requires.head c.requires.fresh; cost = omega arith }

pub bounds-bindings-second : goal.bounds-bindings-second
bounds-bindings-second g c = of_within _ c.args.v4.0 _ (subst (IsOf c.args.bindings.now c.args.v4.0) c.in-Some.is c.chain.invariant.here)

pub meet-requires-clause-shape : goal.meet-requires-clause-shape
meet-requires-clause-shape g c =
    let here = subst (IsOf c.args.bindings.now c.args.v4.0) c.in-Some.is c.chain.invariant.here in
    (c.requires.well c.in-Some.second _ (read_is c.args.bindings.now c.in-Some.second (of_within _ c.args.v4.0 _ here))).shape

pub meet-requires-clause-psid : goal.meet-requires-clause-psid
meet-requires-clause-psid g c =
    let here = subst (IsOf c.args.bindings.now c.args.v4.0) c.in-Some.is c.chain.invariant.here in
    (c.requires.well c.in-Some.second _ (read_is c.args.bindings.now c.in-Some.second (of_within _ c.args.v4.0 _ here))).psid

pub returns-in-Some-meet-clause-first : goal.returns-in-Some-meet-clause-first
returns-in-Some-meet-clause-first g c =
    let bs = c.args.bindings.now in
    let a = c.args.v4.0 in
    let i = c.in-Some.second in
    let here = subst (IsOf bs a) c.in-Some.is c.chain.invariant.here in
    let there = read_is bs i (of_within bs a i here) in
    let risen = subst (λ o. IsRisenTo true bs a o c.args.owners.now c.chain.owners) c.in-Some.is c.chain.invariant.risen in
    risen_found true bs a i (read bs i) c.args.owners.now c.chain.owners there (at_address_of bs a i _ there here) risen
    c.in-Some-meet.first c.in-Some-meet.ensures.least

pub returns-in-Some-meet-clause-owners : goal.returns-in-Some-meet-clause-owners
returns-in-Some-meet-clause-owners g c =
    let bs = c.args.bindings.now in
    let a = c.args.v4.0 in
    let i = c.in-Some.second in
    let here = subst (IsOf bs a) c.in-Some.is c.chain.invariant.here in
    let there = read_is bs i (of_within bs a i here) in
    let risen = subst (λ o. IsRisenTo true bs a o c.args.owners.now c.chain.owners) c.in-Some.is c.chain.invariant.risen in
    risen_names true bs a i (read bs i) c.args.owners.now c.chain.owners there (at_address_of bs a i _ there here) risen
    c.meet.new.owners c.in-Some-meet.ensures.taken

pub bounds-next-second : goal.bounds-next-second
bounds-next-second g c =
    let here = subst (IsOf c.args.bindings.now c.args.v4.0) c.in-Some.is c.chain.invariant.here in
    let within : c.in-Some.second < length c.args.bindings.now = of_within _ c.args.v4.0 _ here in
    omega (arith, c.requires.linked.size, within)

pub chain-smaller : goal.chain-smaller
chain-smaller g c =
    let bs = c.args.bindings.now in
    let a = c.args.v4.0 in
    let i = c.in-Some.second in
    let here = subst (IsOf bs a) c.in-Some.is c.chain.invariant.here in
    left_less bs a i c.chain.at _ c.in-Some.is (of_within bs a i here) (following_of bs c.args.next.now a i c.requires.linked here)

pub chain-preserved : goal.chain-preserved
chain-preserved g c =
    let bs = c.args.bindings.now in
    let a = c.args.v4.0 in
    let i = c.in-Some.second in
    let here = subst (IsOf bs a) c.in-Some.is c.chain.invariant.here in
    let within = of_within bs a i here in
    let there = read_is bs i within in
    let risen = subst (λ o. IsRisenTo true bs a o c.args.owners.now c.chain.owners) c.in-Some.is c.chain.invariant.risen in
    let follows = following_of bs c.args.next.now a i c.requires.linked here in
    let more : taken bs a c.meet.new.owners ≡ taken bs a c.chain.owners + port_steps (read bs i) =
    taken_next bs a i (read bs i) c.chain.owners c.meet.new.owners there (at_address_of bs a i _ there here) c.in_default-meet.ensures.least c.in_default-meet.ensures.taken in
    record {
      cost = omega (arith, more, c.in_default-meet.ensures.cost, c.chain.invariant.cost);
      here = following_is_of bs a i _ follows;
      risen = risen_up true bs a i _ c.args.owners.now c.meet.new.owners within follows
          (risen_next true bs a i (read bs i) c.args.owners.now c.chain.owners there (at_address_of bs a i _ there here) risen
          c.meet.new.owners c.in_default-meet.ensures.least c.in_default-meet.ensures.taken);
    }

pub returns-clause-first : goal.returns-clause-first
returns-clause-first g c =
    let risen = subst (λ o. IsRisenTo true c.args.bindings.now c.args.v4.0 o c.args.owners.now c.chain.owners) c.in_default.is c.chain.invariant.risen in
    risen_all true c.args.bindings.now c.args.v4.0 c.args.owners.now c.chain.owners risen

pub returns-in-Some-meet-clause-cost : goal.returns-in-Some-meet-clause-cost
returns-in-Some-meet-clause-cost g c =
    omega (arith, c.in-Some-meet.ensures.cost, c.chain.invariant.cost, taken_most c.args.bindings.now c.args.v4.0 c.chain.owners, ports_most (read c.args.bindings.now c.in-Some.second))

pub returns-clause-cost : goal.returns-clause-cost
returns-clause-cost g c = omega (arith, c.chain.invariant.cost, taken_most c.args.bindings.now c.args.v4.0 c.chain.owners)
