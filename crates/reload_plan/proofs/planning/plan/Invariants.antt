use Rattle.std.proofs.Common.{◌≡◌, length}
use Rattle.std.specs.Vec.Iter.{into_iter_items, into_iter_len}
use Rattle.reload_plan.proofs.Taking.{Taking}
use Rattle.reload_plan.proofs.planning.plan.Given as goal

abbrev pub invariant-loads : goal.invariant-loads
invariant-loads l = record {
  taking : Taking l.initial.plan (into_iter_items l.initial.load-iterator) l.plan l.slots.items (into_iter_items l.load-iterator);
  count : into_iter_len l.load-iterator ≡ length (into_iter_items l.load-iterator);
}
