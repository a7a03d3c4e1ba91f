use Rattle.worker_gate.specs.Serving.{HasServed, CanServe, IsHolding}
use Rattle.worker_gate.proofs.serving.serve_under.Given as goal

abbrev pub invariant-turns : goal.invariant-turns
invariant-turns g l = let r = g.S.RoundItems in
    record {
      work : CanServe l.task.areas.now l.task.start l.task.end l.worker;
      holding : IsHolding l.task.areas.now l.version l.settings l.worker.seat;
      served : HasServed l.task.areas.now.plan (r.items l.task.items.now) l.task.start l.initial.worker l.worker;
    }
