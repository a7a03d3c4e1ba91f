use Rattle.std.proofs.Common.{false}
use Rattle.rtrb.specs.Ring.{received, sent}
use Rattle.round_pipeline.specs.Ends.{SameJudgeEnd}
use Rattle.round_pipeline.specs.Threads.{IsJudging}
use Rattle.round_pipeline.proofs.worker.judge_rounds.Given as goal

abbrev pub invariant-rounds : goal.invariant-rounds
invariant-rounds g l = record {
  same : SameJudgeEnd l.fn.line l.line;
  ready : g.J.Judge.ready l.judge;
  judging : IsJudging g.J.Judge.judges l.fn.judge l.judge (received l.line.work) (sent l.line.made) false;
}
