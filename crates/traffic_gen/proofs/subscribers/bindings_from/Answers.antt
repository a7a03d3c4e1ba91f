use Rattle.std.proofs.Common.{rules}
use Rattle.traffic_gen.proofs.Owners.{one_binding_more}
use Rattle.traffic_gen.proofs.subscribers.bindings_from.Goals as goal

pub subscribers-preserved : goal.subscribers-preserved
subscribers-preserved c = record {
  list = one_binding_more c.args.first c.subscribers.subscriber c.subscribers.bindings.items c.push.new.self.items c.binding_of.result
      c.subscribers.auto.subscriber c.subscribers.invariant.list c.binding_of.ensures c.in_ok-push.ensures.items;
  count = search rules;
}
