use Rattle.std.proofs.Common.{◌≡◌, ◌+◌, length, subst, ap, ◌∙◌, arith, length-append}
use Rattle.std.specs.Ordering.{nat_cmp}
use Rattle.std.specs.BTreeMap.{get}
use Rattle.std.proofs.lemmas.Option.{slice_get-get_or, slice_get_within}
use Rattle.binding_rules.specs.Scans.{IsNearest}
use Rattle.binding_rules.proofs.Links.{linked_next, nearest_next}
use Rattle.binding_rules.proofs.chains.chains_of.Goals as goal

pub places-preserved : goal.places-preserved
places-preserved c =
    let there = slice_get-get_or c.args.bindings.now c.places.place _ c.places-test.true in
    let update = c.in_ok-earlier.ensures.updates in
    record {
      size = rw c.in_ok-push.ensures.items (length-append c.places.previous.items _ ∙ ap (λ n. n + 1) c.places.invariant.size);
      nearest = rw (c.in_ok-push.ensures.items, c.in_ok-earlier.ensures.old)
          (linked_next c.args.bindings.now c.places.place _ c.places.previous.items _ c.places.invariant.size there
          (c.places.invariant.last _) c.places.invariant.nearest);
      last = λ a. nearest_next c.args.bindings.now c.places.place a _ c.places.last c.insert.new.self there update.1 update.2 (c.places.invariant.last a);
    }

pub returns-clause-linked : goal.returns-clause-linked
returns-clause-linked c =
    let end : c.places.place ≡ length c.args.bindings.now = omega (arith, c.places-test.false, c.places.auto.place-end) in
    record {
      size = c.places.invariant.size ∙ end;
      nearest = λ p x h. c.places.invariant.nearest p x (omega (arith, slice_get_within _ p x h, end)) h;
    }

pub returns-clause-ends : goal.returns-clause-ends
returns-clause-ends c =
    let end : c.places.place ≡ length c.args.bindings.now = omega (arith, c.places-test.false, c.places.auto.place-end) in
    λ a. subst (λ n. IsNearest c.args.bindings.now a n (get nat_cmp c.places.last a)) end (c.places.invariant.last a)
