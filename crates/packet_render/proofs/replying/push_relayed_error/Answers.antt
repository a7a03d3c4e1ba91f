-- What stood there stands still where the error or its end found no memory.
use Rattle.std.proofs.Common.{refl}
use Rattle.icmp_relay.specs.Relayed.{relayed}
use Rattle.packet_render.proofs.PushLemmas.{kept_after, kept_alone}
use Rattle.packet_render.proofs.replying.push_relayed_error.Goals as goal

pub returns-in_err-push_relay-clause-kept : goal.returns-in_err-push_relay-clause-kept
returns-in_err-push_relay-clause-kept c = λ failed.
    kept_alone c.args.out.now.items c.push_front.new.out.items c.push_relay.new.list.items c.push_front.ensures.kept c.in_err-push_relay.ensures.bytes

pub returns-in_err-push_tail-clause-kept : goal.returns-in_err-push_tail-clause-kept
returns-in_err-push_tail-clause-kept c = λ failed.
    kept_after (relayed c.args.own c.args.code c.args.mtu c.args.quote.now) c.args.out.now.items c.push_front.new.out.items c.push_relay.new.list.items
    c.push_tail.new.out.items c.push_front.ensures.kept c.in_ok-push_relay.ensures.bytes (c.in_err-push_tail.ensures.kept refl)
