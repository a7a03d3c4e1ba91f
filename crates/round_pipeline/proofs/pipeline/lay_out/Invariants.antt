use Rattle.std.proofs.Common.{All, ◌++◌, ◌≡◌}
use Rattle.std.specs.Vec.Iter.{into_iter_items}
use Rattle.rtrb.specs.Ring.{SameProducer, sent}
use Rattle.round_pipeline.specs.Lists.{fresh}
use Rattle.round_pipeline.proofs.pipeline.lay_out.Given as goal

abbrev pub invariant-buffers : goal.invariant-buffers
invariant-buffers g l = record {
  same : SameProducer l.initial.back l.back;
  empty : All (λ b. g.T.RoundBuffer.empty b) (into_iter_items l.buffer-iterator);
  laid : sent l.back ++ fresh (into_iter_items l.buffer-iterator) ≡ sent l.initial.back ++ fresh (into_iter_items l.initial.buffer-iterator);
}
