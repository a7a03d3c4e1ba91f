-- What is left to tell is the checksum, and the sum is not 0.
use Rattle.std.proofs.Common.{◌-◌, ◌==◌, ◌&&◌, ◌∙◌, ap, sym, take}
use Rattle.aftr_base.specs.Sums.{checksum}
use Rattle.ip_codec.proofs.Packet4Lemmas.{first_some}
use Rattle.ip_codec.proofs.packet4.is_plain4.Goals as goal

pub fills-requires : goal.fills-requires
fills-requires c =
    let first = c.starts_plain.ensures.first c.if-not-starts_plain.false in
    first_some c.args.bytes.now first.0 first.1 c.plain_sum.result c.plain_sum.ensures.least

pub returns : goal.returns
returns c =
    c.fills.ensures
    ∙ (ap (λ sum. 65535 - sum == 0) c.plain_sum.ensures.folds
    ∙ sym (c.starts_plain.ensures.told ∙ ap (λ starts. starts && (checksum (take 20 c.args.bytes.now) == 0)) c.if-not-starts_plain.false))
