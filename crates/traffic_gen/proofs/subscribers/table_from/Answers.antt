use Rattle.std.proofs.Common.{refl}
use Rattle.traffic_gen.specs.Traffic.{settings}
use Rattle.traffic_gen.proofs.Owners.{none_refused}
use Rattle.traffic_gen.proofs.subscribers.table_from.Goals as goal

pub unreachable-requires : goal.unreachable-requires
unreachable-requires c =
    none_refused c.args.first settings c.in_ok-bindings.bindings.items c.requires refl c.in_ok-bindings.ensures.list c.in-Err-Refused.field-0-0
    (rw c.in-Err-Refused.field-0-is at c.in-Err-Refused.ensures.cause)
