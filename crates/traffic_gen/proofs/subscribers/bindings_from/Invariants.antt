use Rattle.std.proofs.Common.{◌≡◌, ◌-◌, map, vec_len}
use Rattle.std.specs.List.{range_with_len}
use Rattle.traffic_gen.specs.Traffic.{binding_of}
use Rattle.traffic_gen.proofs.subscribers.bindings_from.Given as goal

abbrev pub invariant-subscribers : goal.invariant-subscribers
invariant-subscribers l = record {
  list : l.bindings.items ≡ map binding_of (range_with_len l.first (l.subscriber - l.first));
  count : vec_len l.bindings ≡ l.subscriber - l.first;
}
