use Rattle.std.proofs.Common.{arith, refl}
use Rattle.round_pipeline.proofs.Left.{left_here, left_there}
use Rattle.round_pipeline.proofs.finished.Finished.take_buffer.Goals as goal

pub returns-clause-some : goal.returns-clause-some
returns-clause-some g c =
    left_here c.args.self.now.reads.items c.args.number c.index_mut-line.result.now _ c.pop_known.result (omega (arith, c.if-number-len.false, c.len.ensures)) c.index_mut-line.ensures.value
    c.pop_known.ensures.received.1

pub returns-clause-others : goal.returns-clause-others
returns-clause-others g c = record {
  source = refl;
  seats = refl;
  sink = refl;
  answer = refl;
  others = λ i other. left_there c.args.self.now.reads.items c.args.number i c.index_mut-line.result.now _ other;
}
