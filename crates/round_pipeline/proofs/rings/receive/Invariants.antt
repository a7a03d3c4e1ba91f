use Rattle.std.proofs.Common.{◌≡◌}
use Rattle.rtrb.specs.Ring.{SameConsumer, received}
use Rattle.round_pipeline.proofs.rings.receive.Given as goal

abbrev pub invariant-waits : goal.invariant-waits
invariant-waits g l = SameConsumer l.initial.end l.end × (received l.end ≡ received l.initial.end)

abbrev pub invariant-looks : goal.invariant-looks
invariant-looks g l = SameConsumer l.fn.end l.end × (received l.end ≡ received l.fn.end)
