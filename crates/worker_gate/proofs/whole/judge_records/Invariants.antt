use Rattle.std.proofs.Common.{◌≡◌, length}
use Rattle.worker_gate.specs.Judging.{HasJudgedRun}
use Rattle.worker_gate.proofs.whole.judge_records.Given as goal

abbrev pub invariant-records : goal.invariant-records
invariant-records g l = let r = g.S.RoundItems in
    record {
      judged : HasJudgedRun (r.items l.work.items.now) l.work.start l.initial.judge l.judge l.outcomes.items;
      many : length l.outcomes.items ≡ l.index;
      room : l.outcomes.room ≡ l.initial.outcomes.room;
    }
