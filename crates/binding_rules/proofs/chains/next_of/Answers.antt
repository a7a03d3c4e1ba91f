use Rattle.std.proofs.Common.{◌≡◌, ◌+◌, Some, length, length-append, slice_set, subst, ap, ◌∙◌, arith}
use Rattle.std.proofs.lemmas.List.{length-set}
use Rattle.std.proofs.lemmas.Option.{slice_get_within}
use Rattle.binding_rules.specs.Scans.{IsFollowing, IsNearest, slot}
use Rattle.binding_rules.proofs.Links.{read, read_is, head_down}
use Rattle.binding_rules.proofs.Upwards.{linked_first, linked_behind}
use Rattle.binding_rules.proofs.chains.next_of.Goals as goal
use Rattle.binding_rules.proofs.chains.next_of.Goals.{in-Some, in_default}

pub index_mut-requires : goal.index_mut-requires
index_mut-requires c =
    let down = head_down c.args.bindings.now c.args.previous.now c.places.place c.in-Some.earlier c.requires.linked c.places-test.true c.in-Some.is in
    omega (arith, down.0, c.in_ok-push.ensures.len, c.places.invariant.size)

pub places-preserved : goal.places-preserved
places-preserved c =
    let bs = c.args.bindings.now in
    let i = c.places.place in
    let y = read bs i in
    let there = read_is bs i c.places-test.true in
    let near = c.requires.linked.nearest i y there in
    elim c.match-previous-place.branch [
      | in-Some w ↦ (let q = w.in-Some.earlier in
          let items = ap (λ v. v.items) w.next-is ∙ ap (λ l. slice_set l q (Some i)) c.in_ok-push.ensures.items in
          record {
            size = rw items (length-set _ q _ ∙ (length-append c.places.next.items _ ∙ ap (λ n. n + 1) c.places.invariant.size));
            following = rw items (linked_behind bs i y c.places.next.items there c.places.invariant.size c.places.invariant.following q
                (subst (λ o. IsNearest bs y.v4.0 i o) w.in-Some.is near));
          })
      | in_default w ↦ (let items = ap (λ v. v.items) w.next-is ∙ c.in_ok-push.ensures.items in
          record {
            size = rw items (length-append c.places.next.items _ ∙ ap (λ n. n + 1) c.places.invariant.size);
            following = rw items (linked_first bs i y c.places.next.items there c.places.invariant.size c.places.invariant.following
                (subst (λ o. IsNearest bs y.v4.0 i o) w.in_default.is near));
          })
    ]

pub returns : goal.returns
returns c =
    let end : c.places.place ≡ length c.args.bindings.now = omega (arith, c.places-test.false, c.places.auto.place-end) in
    record {
      size = c.places.invariant.size ∙ end;
      following = λ p x h. subst (λ n. IsFollowing c.args.bindings.now x.v4.0 p n (slot c.places.next.items p)) end
          (c.places.invariant.following p x (omega (arith, slice_get_within _ p x h, end)) h);
    }
