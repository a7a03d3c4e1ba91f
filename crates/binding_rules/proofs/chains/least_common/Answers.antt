use Rattle.std.proofs.Common.{◌≡◌, ◌+◌, ◌<◌, Some, length, subst, sym, ◌∙◌, refl, arith}
use Rattle.std.proofs.lemmas.Bool.{true≢false}
use Rattle.binding_rules.specs.Conflicts.{HaveCommonPort}
use Rattle.binding_rules.specs.Scans.{IsLeast, IsLater}
use Rattle.binding_rules.specs.Scans.{slot}
use Rattle.binding_rules.proofs.Counts.{all_to_come, step_at, remaining}
use Rattle.binding_rules.proofs.Links.{IsOf, IsToCome, none_later, near_of, nearest_is_of, last_to_come, still_to_come, least_here, least_kept, of_within, read, read_is, at_address_of, same_binding}
use Rattle.binding_rules.proofs.chains.least_common.Goals as goal
use Rattle.binding_rules.proofs.chains.least_common.Goals.{then-have_common_port, else-have_common_port}

pub chain-init : goal.chain-init
chain-init g c = record {
  here = c.requires.last.here;
  to_come = last_to_come c.args.bindings.now c.args.binding.v4.0 c.args.last c.args.place c.requires.last (c.args.binding, c.requires.there, refl);
  least = none_later _ _ _ _ c.requires.last;
  cost = omega (arith, all_to_come c.args.bindings.now c.args.binding.v4.0 (Some c.args.last));
}

pub bounds-bindings-later : goal.bounds-bindings-later
bounds-bindings-later g c = of_within _ _ _ (subst (IsOf c.args.bindings.now c.args.binding.v4.0) c.in-Some.is c.chain.invariant.here)

pub have_common_port-requires-clause-first : goal.have_common_port-requires-clause-first
have_common_port-requires-clause-first g c = c.requires.well c.args.place c.args.binding c.requires.there

pub have_common_port-requires-clause-second : goal.have_common_port-requires-clause-second
have_common_port-requires-clause-second g c =
    let here = subst (IsOf c.args.bindings.now c.args.binding.v4.0) c.in-Some.is c.chain.invariant.here in
    c.requires.well c.in-Some.later _ (read_is c.args.bindings.now c.in-Some.later (of_within _ c.args.binding.v4.0 _ here))

pub bounds-previous-later : goal.bounds-previous-later
bounds-previous-later g c =
    let within : c.in-Some.later < length c.args.bindings.now =
    of_within _ c.args.binding.v4.0 _ (subst (IsOf c.args.bindings.now c.args.binding.v4.0) c.in-Some.is c.chain.invariant.here) in
    omega (arith, c.requires.linked.size, within)

pub chain-preserved : goal.chain-preserved
chain-preserved g c =
    let bs = c.args.bindings.now in
    let x = c.args.binding in
    let p = c.in-Some.later in
    let here = subst (IsOf bs x.v4.0) c.in-Some.is c.chain.invariant.here in
    let nearest = near_of bs c.args.previous.now x.v4.0 p c.requires.linked here in
    let there = read_is bs p (of_within bs x.v4.0 p here) in
    let least = subst (λ o. IsLeast (IsLater bs x.v4.0 o (HaveCommonPort x)) c.chain.found) c.in-Some.is c.chain.invariant.least in
    let still = subst (IsToCome c.args.place) c.in-Some.is c.chain.invariant.to_come in
    let less : remaining bs x.v4.0 c.chain.at ≡ 1 + remaining bs x.v4.0 (slot c.args.previous.now p) = step_at bs c.args.previous.now x.v4.0 p c.chain.at c.requires.linked here c.in-Some.is in
    record {
      here = nearest_is_of bs x.v4.0 p _ nearest;
      to_come = still_to_come bs x.v4.0 p c.args.place _ nearest (x, c.requires.there, refl) still c.if-later-place.false;
      least = elim c.if-have_common_port.branch [
        | then-have_common_port w ↦ rw w.found-is (least_here bs x.v4.0 p _ (HaveCommonPort x) nearest
            (read bs p, there, (at_address_of bs x.v4.0 p _ there here, c.have_common_port.ensures.0 w.if-have_common_port.true)))
        | else-have_common_port w ↦ rw w.found-is (least_kept bs x.v4.0 p _ (HaveCommonPort x) c.chain.found nearest
            (λ h. true≢false (sym (c.have_common_port.ensures.1 (subst (HaveCommonPort x) (same_binding bs p h.0 (read bs p) h.1 there) h.2.1))
            ∙ w.if-have_common_port.false))
            least)
      ];
      cost = omega (arith, c.tick.ensures, c.chain.invariant.cost, less);
    }

pub returns-then-later-place-clause-cost : goal.returns-then-later-place-clause-cost
returns-then-later-place-clause-cost g c =
    let bs = c.args.bindings.now in
    let a = c.args.binding.v4.0 in
    let p = c.in-Some.later in
    let here = subst (IsOf bs a) c.in-Some.is c.chain.invariant.here in
    let less : remaining bs a c.chain.at ≡ 1 + remaining bs a (slot c.args.previous.now p) = step_at bs c.args.previous.now a p c.chain.at c.requires.linked here c.in-Some.is in
    omega (arith, less, c.tick.ensures, c.chain.invariant.cost)
