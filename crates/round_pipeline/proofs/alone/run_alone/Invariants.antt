use Rattle.std.proofs.Common.{length, ◌≡◌}
use Rattle.round_pipeline.specs.Pipelines.{IsReady, IsRunning}
use Rattle.round_pipeline.proofs.alone.run_alone.Given as goal

abbrev pub invariant-rounds : goal.invariant-rounds
invariant-rounds g l = record {
  seats : length l.run.seats.items ≡ length l.fn.run.seats.items;
  reads : length l.run.reads.items ≡ length l.fn.run.seats.items;
  writes : length l.run.writes.items ≡ length l.fn.run.seats.items;
  ready : IsReady g.S.Source.fills g.J.Judge.judges g.W.Sink.puts g.S.Source.ready g.J.Judge.ready g.W.Sink.ready (length l.fn.run.seats.items) l.run;
  running : (source : _) (seats : _) (sink : _) (first : _) →
      IsRunning g.S.Source.fills g.J.Judge.judges g.W.Sink.puts (length l.fn.run.seats.items) source seats sink first l.fn.run →
      IsRunning g.S.Source.fills g.J.Judge.judges g.W.Sink.puts (length l.fn.run.seats.items) source seats sink first l.run;
}
