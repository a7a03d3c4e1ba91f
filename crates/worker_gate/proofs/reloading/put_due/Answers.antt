use Rattle.worker_gate.proofs.Points.{claimed_put, later_put, none_put}
use Rattle.worker_gate.proofs.reloading.put_due.Goals as goal

pub returns-in-None-clause-next : goal.returns-in-None-clause-next
returns-in-None-clause-next c =
    none_put c.args.areas.now.plan c.args.desk.now.known c.due.new.desk.known c.in-None.ensures.due c.due.ensures.is_desk
    c.due.ensures.areas.same_plan

pub returns-in-Later-clause-next : goal.returns-in-Later-clause-next
returns-in-Later-clause-next c =
    later_put c.args.areas.now.plan c.in-Later.records c.in-Later.earliest c.args.desk.now.known c.due.new.desk.known c.in-Later.ensures.due
    c.due.ensures.is_desk c.due.ensures.areas.same_plan

pub returns-in-Claimed-clause-next : goal.returns-in-Claimed-clause-next
returns-in-Claimed-clause-next c =
    claimed_put c.args.areas.now.plan c.in-Claimed.count c.args.desk.now.known c.due.new.desk.known c.quiet.new.desk.known
    c.in-Now.ensures.due c.in-Claimed.ensures.quiet
