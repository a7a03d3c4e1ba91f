use Rattle.std.proofs.Common.{◌+◌, ◌-◌, ◌≤◌, length}
use Rattle.worker_gate.specs.Serving.{ArePutDown, IsHolding}
use Rattle.worker_gate.proofs.serving.put_run.Given as goal

abbrev pub invariant-numbers : goal.invariant-numbers
invariant-numbers g l = let r = g.S.RoundItems in
    record {
      down : ArePutDown l.task.areas.now.plan (r.items l.task.items.now) l.task.start l.first l.i l.version l.initial.worker l.worker;
      holding : IsHolding l.task.areas.now l.version l.settings l.worker.seat;
      room : length l.worker.outcomes.items + (l.count - l.i) ≤ l.worker.outcomes.room;
    }
