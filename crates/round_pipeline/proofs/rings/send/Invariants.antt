use Rattle.std.proofs.Common.{◌≡◌}
use Rattle.rtrb.specs.Ring.{SameProducer, sent}
use Rattle.round_pipeline.proofs.rings.send.Given as goal

abbrev pub invariant-tries : goal.invariant-tries
invariant-tries g l = SameProducer l.initial.end l.end × (sent l.end ≡ sent l.initial.end) × (l.value ≡ l.initial.value)
