-- One error about the packet that is quoted.
use Rattle.capture_io.specs.Packets.{packet_bytes}
use Rattle.icmp_relay.specs.Quotes.{tunnel_quote}
use Rattle.icmp_relay.specs.Relayed.{relayed}
use Rattle.ip_codec.specs.Seen.{seen}
use Rattle.packet_render.specs.Sent.{along, quote_of_item}
use Rattle.packet_render.proofs.PushLemmas.{made_pushed, one_pushed}
use Rattle.packet_render.proofs.replying.push_relayed.Goals as goal

pub returns-clause-pushed : goal.returns-clause-pushed
returns-clause-pushed c =
    let quote = c.in-Some.quote in
    let record_of = packet_bytes c.args.stamp.form c.args.stamp.seconds c.args.stamp.fraction in
    made_pushed record_of (quote_of_item (seen c.args.item.now)) (tunnel_quote quote) _ c.args.out.now.items c.push_relayed_error.new.out.items 1 c.in-Some.ensures
    (one_pushed record_of (along c.args.path (relayed c.args.own c.args.code c.args.mtu quote)) c.args.out.now.items c.push_relayed_error.new.out.items
    c.in_ok-push_relayed_error.ensures.bytes)
