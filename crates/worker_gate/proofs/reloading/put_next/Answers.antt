use Rattle.std.proofs.Common.{inl, inr}
use Rattle.worker_gate.specs.Reloading.{HasCountedLong, HasMorePoints, IsReloaded}
use Rattle.area_swap.specs.Values.{IsClear}
use Rattle.worker_gate.proofs.Points.{counted_long, end_reached, is_not, none_left, not_free, points_turned, turns_long, turns_read}
use Rattle.worker_gate.proofs.reloading.put_next.Goals as goal

pub returns-in-None-clause-next : goal.returns-in-None-clause-next
returns-in-None-clause-next c =
    let p = c.args.areas.now.plan in
    let u = c.args.desk.now.known in
    let v = c.turns.desk.known in
    let w = c.due.new.desk.known in (
      points_turned u w (turns_read u v w c.turns.invariant.turns c.in-None.ensures.due.after),
      inl (none_left p v w c.in-None.ensures.due c.due.ensures.is_desk c.due.ensures.areas.same_plan),
    )

pub returns-then-records-end-clause-next : goal.returns-then-records-end-clause-next
returns-then-records-end-clause-next c =
    let p = c.args.areas.now.plan in
    let u = c.args.desk.now.known in
    let v = c.turns.desk.known in
    let w = c.due.new.desk.known in (
      points_turned u w (turns_read u v w c.turns.invariant.turns c.in-Later.ensures.due.after),
      inr (inl
          (end_reached p c.args.end c.in-Later.records c.in-Later.earliest u v w c.turns.invariant.turns c.in-Later.ensures.due c.due.ensures.is_desk
          c.due.ensures.areas.same_plan c.if-records-end.true)),
    )

pub returns-else-is_free-clause-next : goal.returns-else-is_free-clause-next
returns-else-is_free-clause-next c =
    let p = c.args.areas.now.plan in
    let u = c.args.desk.now.known in
    let v = c.turns.desk.known in
    let w = c.due.new.desk.known in
    let x = c.comes_free-is_free.new.desk.known in
    let long : HasCountedLong w x = not_free c.comes_free-is_free.result (IsClear x) (HasCountedLong w x) c.if-is_free.false c.comes_free-is_free.ensures.free in
    is_not c.comes_free-is_free.result (HasMorePoints 1 u x) (HasMorePoints 0 u x × IsReloaded c.args.end u x) c.if-is_free.false (
      points_turned u x (turns_long p u v w x c.turns.invariant.turns c.in-Now.ensures.due c.comes_free-is_free.ensures.turns),
      inr (inr (inr (counted_long p u v w x c.turns.invariant.turns c.in-Now.ensures.due long))),
    )
