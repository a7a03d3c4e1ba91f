use Rattle.std.proofs.Common.{◌≡◌}
use Rattle.rtrb.specs.Ring.{SameConsumer, received}
use Rattle.round_pipeline.proofs.worker.next_round.Given as goal

abbrev pub invariant-waits : goal.invariant-waits
invariant-waits g l = SameConsumer l.initial.work l.work × (received l.work ≡ received l.initial.work)
