use Rattle.std.proofs.Common.{◌+◌, Err, rules, sym, subst}
use Rattle.toml.specs.View.{table_view, items_view}
use Rattle.binding_file.specs.Files.{AreBindings}
use Rattle.binding_file.proofs.Elements.{Ready, ready_first, ready_more, ready_refused, ready_done}
use Rattle.binding_file.proofs.Trees.{then_ok}
use Rattle.binding_file.proofs.reading.bindings_of.Goals as goal

pub elements-init : goal.elements-init
elements-init c = record { ready = subst (λ bs. Ready c.in_ok-values.values.now 0 bs) (sym c.in_ok-bindings.ensures.items) (ready_first c.in_ok-values.values.now); count = search rules }

pub returns-in_err-element_of : goal.returns-in_err-element_of
returns-in_err-element_of c =
    let vs = c.in_ok-values.values.now in
    let refused : AreBindings (table_view c.args.document.now) (Err c.in_err-element_of.field-0.0) =
    then_ok _ (items_view vs) _ _ (sym c.in_ok-values.ensures) (ready_refused vs c.elements.at c.elements.bindings.items c.in_err-element_of.field-0.0 c.index-values-at.result c.elements-test.true c.index-values-at.is c.in_err-element_of.ensures c.elements.invariant.ready) in
    search rules

pub elements-preserved : goal.elements-preserved
elements-preserved c =
    let vs = c.in_ok-values.values.now in
    record {
      ready = subst (λ bs. Ready vs (c.elements.at + 1) bs) (sym c.in_ok-push.ensures.items) (ready_more vs c.elements.at c.elements.bindings.items c.in_ok-element_of.field-0 c.index-values-at.result c.elements-test.true c.index-values-at.is c.in_ok-element_of.ensures c.elements.invariant.ready);
      count = search rules;
    }

pub returns-clause-read : goal.returns-clause-read
returns-clause-read c =
    let vs = c.in_ok-values.values.now in
    then_ok _ (items_view vs) _ _ (sym c.in_ok-values.ensures) (ready_done vs c.elements.at c.elements.bindings.items c.elements-test.false c.elements.invariant.ready)
