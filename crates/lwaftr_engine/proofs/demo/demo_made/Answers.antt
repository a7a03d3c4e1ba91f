use Rattle.lwaftr_engine.proofs.ShowLemmas.{demo_made}
use Rattle.lwaftr_engine.proofs.demo.demo_made.Goals as goal

pub returns : goal.returns
returns c =
    let plan = rw (c.in_ok-push.ensures.items, c.new-loads.ensures.items, c.middle_of.ensures) at c.plan.ensures.plan in
    let slots = rw (c.in_ok-push.ensures.items, c.new-loads.ensures.items) at c.plan.ensures.slots in
    demo_made c.args.count c.args.first.now c.args.second.now c.in_ok-compile-2.field-0 c.in_ok-compile.field-0 c.plan.result
    c.in_ok-compile-2.ensures.words c.in_ok-compile.ensures.words plan slots c.plan.ensures.compiled
