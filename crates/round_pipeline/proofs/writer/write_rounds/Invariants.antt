use Rattle.std.proofs.Common.{length, ℕ, ◌<◌, ◌≡◌}
use Rattle.std.specs.Prelude.{slice_index_or}
use Rattle.rtrb.specs.Ring.{SameConsumer, received}
use Rattle.round_pipeline.specs.Ends.{SameWriteEnd}
use Rattle.round_pipeline.specs.Threads.{IsWriting}
use Rattle.round_pipeline.proofs.writer.write_rounds.Given as goal

abbrev pub invariant-rounds : goal.invariant-rounds
invariant-rounds g l = record {
  count : l.count ≡ length l.fn.lines;
  size : length l.lines ≡ length l.fn.lines;
  same : (i : ℕ) (d : _) → i < length l.fn.lines → SameWriteEnd (slice_index_or l.fn.lines i d) (slice_index_or l.lines i d);
  turns : SameConsumer l.fn.order.turns l.order.turns;
  ready : g.W.Sink.ready l.sink;
  written : (start : _) (first : _) →
      IsWriting g.W.Sink.puts (length l.fn.lines) start first (received l.fn.order.turns) l.fn.order.ended l.fn.sink l.fn.answer l.fn.lines →
      IsWriting g.W.Sink.puts (length l.fn.lines) start first (received l.order.turns) l.order.ended l.sink l.answer l.lines;
}
