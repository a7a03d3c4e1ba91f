-- What its fields tell of the packet.
use Rattle.std.proofs.Common.{◌≡◌, ◌==◌, ◌%◌, ◌&&◌, ◌∙◌, ap, sym, arith, take}
use Rattle.aftr_base.specs.Sums.{checksum}
use Rattle.ip_codec.specs.Packet4.{total_len_of}
use Rattle.ip_codec.proofs.Packet4Lemmas.{plain_by_sum}
use Rattle.ip_codec.proofs.packet4.starts_plain.Goals as goal

pub returns-then-total_len-bytes-clause-told : goal.returns-then-total_len-bytes-clause-told
returns-then-total_len-bytes-clause-told c =
    let bytes = c.args.bytes.now in
    let total_is : c.from-total_len.result ≡ total_len_of bytes = c.from-total_len.ensures ∙ c.be16.ensures in
    plain_by_sum bytes (omega (arith, c.if-bytes-lt-HEADER4_LEN.false)) c.if-bytes-ne-PLAIN_FIRST.false
    (omega (arith, c.if-total_len-bytes.true.0, total_is)) (omega (arith, c.if-total_len-bytes.true.1, total_is))
    ∙ ap (λ w. (w % 16384 == 0) && (checksum (take 20 bytes) == 0)) (sym c.be16-then-total_len-bytes.ensures)
