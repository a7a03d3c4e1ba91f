use Rattle.std.proofs.Common.{refl, arith}
use Rattle.plan_cases.proofs.LoadLemmas.{more_read, one_more}
use Rattle.plan_cases.proofs.plans.planned.Goals as goal

pub loads-preserved : goal.loads-preserved
loads-preserved c =
    let may = c.if-not-may_follow.ensures.0 refl in
    let more = one_more c.loads.list.items c.push.new.self.items c.in_ok-load.load c.in_ok-push.ensures.items in
    record {
      read = more_read c.loads.list.items c.push.new.self.items c.loads.before _ c.in_ok-load.load c.loads.invariant.read
          c.in_ok-load.ensures.window c.in_ok-load.ensures.words may c.in_ok-push.ensures.items;
      few = omega (arith, more, c.loads.invariant.count);
      count = omega (arith, more, c.loads.invariant.count);
    }
