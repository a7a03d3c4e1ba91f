-- The packet was tested before.
use Rattle.std.proofs.Common.{refl, arith}
use Rattle.ip_codec.specs.Packet4.{packet4, whole4}
use Rattle.packet_cases.proofs.SendableLemmas.{is_sendable}
use Rattle.packet_cases.proofs.sending.sent_out.Goals as goal

pub record-requires-clause-fits : goal.record-requires-clause-fits
record-requires-clause-fits c =
    let p = packet4 c.in-Ok.inner.view in
    let may = c.is_sendable.ensures c.if-is_sendable.true in
    (tt, is_sendable _ c.args.mtu (whole4 p) p refl c.in-Ok.inner.alone may.0 may.1 (λ df. omega (arith, may.2 df, c.from.ensures)))
