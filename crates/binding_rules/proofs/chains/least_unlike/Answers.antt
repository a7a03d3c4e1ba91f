use Rattle.std.proofs.Common.{◌≡◌, ◌+◌, ◌<◌, Some, length, subst, sym, ◌∙◌, arith}
use Rattle.std.proofs.lemmas.Option.{slice_get-get_or}
use Rattle.std.proofs.lemmas.Bool.{true≢false}
use Rattle.binding_rules.specs.Conflicts.{HaveOneShape}
use Rattle.binding_rules.specs.Scans.{IsLeast, IsLater}
use Rattle.binding_rules.specs.Scans.{slot}
use Rattle.binding_rules.proofs.Counts.{all_to_come, step_at, remaining}
use Rattle.binding_rules.proofs.Links.{IsOf, none_later, near_of, nearest_is_of, unlike_found, unlike_kept, of_within}
use Rattle.binding_rules.proofs.chains.least_unlike.Goals as goal
use Rattle.binding_rules.proofs.chains.least_unlike.Goals.{then-not-have_one_shape, else-not-have_one_shape}

pub chain-init : goal.chain-init
chain-init g c = record {
  here = c.requires.last.here;
  least = none_later _ _ _ _ c.requires.last;
  cost = omega (arith, all_to_come c.args.bindings.now c.args.like.v4.0 (Some c.args.last));
}

pub bounds-bindings-place : goal.bounds-bindings-place
bounds-bindings-place g c = of_within _ _ _ (subst (IsOf _ _) c.in-Some.is c.chain.invariant.here)

pub bounds-previous-place : goal.bounds-previous-place
bounds-previous-place g c =
    let within : c.in-Some.place < length c.args.bindings.now =
    of_within _ c.args.like.v4.0 _ (subst (IsOf c.args.bindings.now c.args.like.v4.0) c.in-Some.is c.chain.invariant.here) in
    omega (arith, c.requires.linked.size, within)

pub chain-preserved : goal.chain-preserved
chain-preserved g c =
    let here = subst (IsOf c.args.bindings.now c.args.like.v4.0) c.in-Some.is c.chain.invariant.here in
    let nearest = near_of _ _ _ _ c.requires.linked here in
    let there = slice_get-get_or c.args.bindings.now c.in-Some.place _ (of_within _ c.args.like.v4.0 _ here) in
    let least = subst (λ o. IsLeast (IsLater c.args.bindings.now c.args.like.v4.0 o (λ x. HaveOneShape c.args.like x → ⊥)) c.chain.found) c.in-Some.is c.chain.invariant.least in
    let less : remaining c.args.bindings.now c.args.like.v4.0 c.chain.at ≡ 1 + remaining c.args.bindings.now c.args.like.v4.0 (slot c.args.previous.now c.in-Some.place) =
    step_at c.args.bindings.now c.args.previous.now c.args.like.v4.0 c.in-Some.place c.chain.at c.requires.linked here c.in-Some.is in
    record {
      here = nearest_is_of _ _ _ _ nearest;
      least = elim c.if-not-have_one_shape.branch [
        | then-not-have_one_shape w ↦ rw w.found-is (unlike_found _ c.args.like _ _ _ nearest there here
            (λ alike. true≢false (sym (c.have_one_shape.ensures.1 alike) ∙ w.if-not-have_one_shape.true)))
        | else-not-have_one_shape w ↦ rw w.found-is (unlike_kept _ c.args.like _ _ _ _ nearest there
            (c.have_one_shape.ensures.0 w.if-not-have_one_shape.false) least)
      ];
      cost = omega (arith, c.tick.ensures, c.chain.invariant.cost, less);
    }

pub returns-clause-least : goal.returns-clause-least
returns-clause-least g c =
    subst (λ o. IsLeast (IsLater c.args.bindings.now c.args.like.v4.0 o (λ x. HaveOneShape c.args.like x → ⊥)) c.chain.found) c.in_default.is c.chain.invariant.least
