use Rattle.area_swap.specs.Values.{IsIdle}
use Rattle.worker_gate.specs.Serving.{HasServed, CanServe}
use Rattle.worker_gate.proofs.serving.serve_in.Given as goal

abbrev pub invariant-claims : goal.invariant-claims
invariant-claims g l = let r = g.S.RoundItems in
    record {
      work : CanServe l.task.areas.now l.task.start l.task.end l.worker;
      idle : IsIdle l.worker.seat.known;
      served : HasServed l.task.areas.now.plan (r.items l.task.items.now) l.task.start l.initial.worker l.worker;
    }
