use Rattle.std.proofs.lemmas.Bool.{ltb-true}
use Rattle.std.proofs.Common.{ap, sym, ◌∙◌, length, List, ℕ}
use Rattle.area_swap.specs.declared.board.View.{View}
use Rattle.worker_gate.proofs.Points.{settled_later}
use Rattle.worker_gate.proofs.settling.is_settled.Goals as goal

pub returns-in-Later-clause-settled : goal.returns-in-Later-clause-settled
returns-in-Later-clause-settled c = λ is.
    settled_later c.args.areas.now.plan c.in-Later.records c.in-Later.earliest c.args.seat.now.known c.see-seen.new.seat.known c.args.desk.now.known
    c.due.new.desk.known c.see-seen.result c.see-seen.ensures.seat c.see-seen.ensures.sees
    (c.if-seen-points.false ∙ ap (λ (l : List ℕ). length l) c.points.ensures.points
    ∙ sym (ap (λ (x : View). length x.points) c.in-Later.ensures.due.after))
    c.in-Later.ensures.due c.due.ensures.is_desk c.due.ensures.areas.same_plan (ltb-true c.see-seen.result.records c.in-Later.earliest is)
