-- The message and what it quotes were read.
use Rattle.std.proofs.Common.{refl, inr}
use Rattle.icmp_codec.specs.Message6.{message6}
use Rattle.icmp_relay.specs.Quotes.{tunnel_quote}
use Rattle.packet_cases.proofs.sending.relayed.Goals as goal

pub record-requires-clause-fits : goal.record-requires-clause-fits
record-requires-clause-fits c = (
  record {
    message = message6 c.in-Ok.view;
    read = c.in-Ok.ensures;
    quote = tunnel_quote c.in-Ok-read_quote.quote;
    quoted = c.in-Ok-read_quote.ensures.reads;
  },
  inr refl,
)
