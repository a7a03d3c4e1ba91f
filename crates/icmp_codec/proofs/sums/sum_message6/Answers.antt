-- What is summed is the pseudo-header and the message.
use Rattle.std.proofs.Common.{◌++◌, ◌∙◌, ap}
use Rattle.aftr_base.specs.Sums.{checksum}
use Rattle.icmp_codec.proofs.sums.sum_message6.Goals as goal

pub returns : goal.returns
returns c = c.sum_of_both.ensures ∙ ap (λ l. checksum (l ++ c.args.message.now)) c.pseudo_header.ensures
