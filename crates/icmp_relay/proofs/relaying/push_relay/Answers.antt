-- The quote is one part, and the word is the size.
use Rattle.icmp_relay.proofs.RelayLemmas.{told_in_one}
use Rattle.icmp_relay.proofs.relaying.push_relay.Goals as goal

pub returns-clause-told : goal.returns-clause-told
returns-clause-told c =
    told_in_one c.push_error4.result c.args.own c.args.code c.args.mtu c.from.result c.args.q.now c.from.ensures c.push_error4.ensures.told
