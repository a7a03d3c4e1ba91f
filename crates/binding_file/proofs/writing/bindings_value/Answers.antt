use Rattle.std.proofs.Common.{◌+◌, sym, subst, take}
use Rattle.std.proofs.lemmas.List.{take_all}
use Rattle.toml.specs.View.{items_view}
use Rattle.toml.proofs.Views.{view-Array}
use Rattle.binding_file.specs.Parts.{AreSpelled}
use Rattle.binding_file.proofs.Written.{spelled_more}
use Rattle.binding_file.proofs.writing.bindings_value.Goals as goal

pub bindings-preserved : goal.bindings-preserved
bindings-preserved c =
    let bs = c.args.bindings.now in
    let i = c.bindings.binding-index in
    subst (λ vs. AreSpelled (items_view vs) (take (i + 1) bs)) (sym c.in_ok-push.ensures.items)
    (spelled_more c.bindings.values.items bs i c.in_ok-binding_value.field-0 _ c.bindings-test.true c.bindings.invariant c.in_ok-binding_value.ensures)

pub returns : goal.returns
returns c = record {
  items = items_view c.bindings.values.items;
  is = view-Array c.bindings.values;
  spelled = subst (λ bs. AreSpelled (items_view c.bindings.values.items) bs) (take_all _ c.args.bindings.now c.bindings-test.false) c.bindings.invariant;
}
