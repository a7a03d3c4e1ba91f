use Rattle.std.proofs.Common.{sym, ◌∙◌, arith}
use Rattle.std.proofs.lemmas.Option.{slice_get_within}
use Rattle.binding_rules.specs.Bindings.{is_bound}
use Rattle.binding_rules.proofs.Links.{read_is}
use Rattle.binding_rules.proofs.Laws.{filter_none, place_of, bound_more}
use Rattle.binding_rules.proofs.lookup.find.Goals as goal

pub returns-then-is_owner-clause-place : goal.returns-then-is_owner-clause-place
returns-then-is_owner-clause-place c =
    let bs = c.bindings-bindings.result.now in
    let there = rw c.bindings-bindings.ensures.value at (read_is bs c.places.place c.places-test.true) in
    let owns = rw c.bindings-bindings.ensures.value at (sym c.is_owner.ensures ∙ c.if-is_owner.true) in
    place_of c.args.table.now c.bindings-bindings.ensures.valid c.args.v4 c.args.want c.places.place _ there owns

pub places-preserved : goal.places-preserved
places-preserved c =
    bound_more c.bindings-bindings.result.now c.args.v4 c.args.want c.places.place _ (read_is _ c.places.place c.places-test.true)
    (sym c.is_owner.ensures ∙ c.if-is_owner.false) c.places.invariant

pub returns-clause-none : goal.returns-clause-none
returns-clause-none c =
    rw (← c.bindings-bindings.ensures.value)
    (filter_none (is_bound c.args.v4 c.args.want) c.bindings-bindings.result.now
    (λ n y e. c.places.invariant n y (omega (arith, slice_get_within _ n y e, c.places-test.false)) e))
