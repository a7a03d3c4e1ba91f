use Rattle.std.proofs.Common.{◌≡◌, All, map, vec_capacity}
use Rattle.worker_gate.specs.Gathering.{IsIdleSeat, IsOfRound, hand_of}
use Rattle.worker_gate.specs.Reloading.{CanReload, KeepsPoints}
use Rattle.worker_gate.specs.Turns.{DrawsNothing}
use Rattle.worker_gate.proofs.rounds.passes.Given as goal

abbrev pub invariant-passes : goal.invariant-passes
invariant-passes g l = let r = g.S.RoundItems in
    record {
      round : All (IsOfRound l.task.areas.now (r.items l.task.items.now) l.task.start l.task.end) l.workers.items;
      hands : map hand_of l.workers.items ≡ map hand_of l.initial.workers.items;
      room : vec_capacity l.workers ≡ vec_capacity l.initial.workers;
      seat : IsIdleSeat l.task.areas.now l.seat;
      desk : CanReload l.task.areas.now l.desk;
      nothing : DrawsNothing l.initial.seat.known l.seat.known;
      points : KeepsPoints l.initial.desk.known l.desk.known;
    }
