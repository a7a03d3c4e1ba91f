use Rattle.std.proofs.Common.{inl, inr}
use Rattle.worker_gate.specs.Reloading.{HasCountedLong, HasMorePoints, IsOver}
use Rattle.area_swap.specs.Values.{IsClear}
use Rattle.worker_gate.proofs.Points.{counted_long, has_stood, is_not, none_left, not_free, opens_behind, points_turned, turns_long, turns_read}
use Rattle.worker_gate.proofs.reloading.put_beside.Goals as goal

pub returns-in-None-clause-next : goal.returns-in-None-clause-next
returns-in-None-clause-next c =
    let p = c.args.areas.now.plan in
    let u = c.args.desk.now.known in
    let v = c.turns.desk.known in
    let w = c.due.new.desk.known in (
      points_turned u w (turns_read u v w c.turns.invariant.turns c.in-None.ensures.due.after),
      inl (none_left p v w c.in-None.ensures.due c.due.ensures.is_desk c.due.ensures.areas.same_plan),
    )

pub returns-then-earliest-end-clause-next : goal.returns-then-earliest-end-clause-next
returns-then-earliest-end-clause-next c =
    let p = c.args.areas.now.plan in
    let u = c.args.desk.now.known in
    let v = c.turns.desk.known in
    let w = c.due.new.desk.known in (
      points_turned u w (turns_read u v w c.turns.invariant.turns c.in-Later.ensures.due.after),
      inr (inl
          (opens_behind p c.args.end c.in-Later.records c.in-Later.earliest v w c.in-Later.ensures.due c.due.ensures.is_desk
          c.due.ensures.areas.same_plan c.if-earliest-end.true)),
    )

pub returns-then-stands_at_limit-clause-next : goal.returns-then-stands_at_limit-clause-next
returns-then-stands_at_limit-clause-next c =
    let p = c.args.areas.now.plan in
    let u = c.args.desk.now.known in
    let v = c.turns.desk.known in
    let w = c.due.new.desk.known in (
      points_turned u w (turns_read u v w c.turns.invariant.turns c.in-Later.ensures.due.after),
      inr (inr (inl
          (has_stood p c.in-Later.records c.in-Later.earliest v w c.in-Later.ensures.due
          (c.stands_at_limit.ensures.stands c.if-stands_at_limit.true)))),
    )

pub returns-else-came-clause-next : goal.returns-else-came-clause-next
returns-else-came-clause-next c =
    let p = c.args.areas.now.plan in
    let u = c.args.desk.now.known in
    let v = c.turns.desk.known in
    let w = c.due.new.desk.known in
    let x = c.comes_free-came.new.desk.known in
    let long : HasCountedLong w x = not_free c.comes_free-came.result (IsClear x) (HasCountedLong w x) c.if-came.false c.comes_free-came.ensures.free in
    is_not c.comes_free-came.result (HasMorePoints 1 u x) (HasMorePoints 0 u x × IsOver c.args.end u x) c.if-came.false (
      points_turned u x (turns_long p u v w x c.turns.invariant.turns c.in-Now.ensures.due c.comes_free-came.ensures.turns),
      inr (inr (inr (inr (counted_long p u v w x c.turns.invariant.turns c.in-Now.ensures.due long)))),
    )
