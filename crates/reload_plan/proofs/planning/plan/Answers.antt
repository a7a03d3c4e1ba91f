use Rattle.std.proofs.Common.{◌≡◌, ◌∷◌, ap, subst, arith, length}
use Rattle.std.specs.Vec.Iter.{into_iter_items}
use Rattle.reload_plan.proofs.Taking.{Taking, may_follow, more, table_size}
use Rattle.reload_plan.proofs.planning.plan.Goals as goal

pub of-requires : goal.of-requires
of-requires c = table_size c.args.first c.requires.first

pub take-requires : goal.take-requires
take-requires c =
    may_follow c.in_ok-plan.plan c.loads.plan (into_iter_items c.into_iter-load-iterator.result) (into_iter_items c.next.new.self) c.loads.slots.items c.in-Some.load
    (subst (Taking c.in_ok-plan.plan (into_iter_items c.into_iter-load-iterator.result) c.loads.plan c.loads.slots.items) c.in-Some.ensures.steps.0
    c.loads.invariant.taking)

pub loads-preserved : goal.loads-preserved
loads-preserved c =
    let steps : into_iter_items c.loads.load-iterator ≡ c.in-Some.load ∷ into_iter_items c.next.new.self = c.in-Some.ensures.steps.0 in
    record {
      taking = more c.in_ok-plan.plan c.loads.plan c.take.new.plan (into_iter_items c.into_iter-load-iterator.result) (into_iter_items c.loads.load-iterator)
          (into_iter_items c.next.new.self) c.loads.slots.items c.push.new.self.items c.in-Some.load c.in_ok-slot.slot steps c.loads.invariant.taking
          c.in_ok-slot.ensures.plan c.in_ok-push.ensures.items c.in_ok-slot.ensures.slot;
      count = let gone = c.in-Some.ensures.steps.1 in let short = ap length steps in omega (arith, c.loads.invariant.count);
    }
