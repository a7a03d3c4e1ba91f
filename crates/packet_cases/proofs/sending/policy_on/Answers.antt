-- The packet was read.
use Rattle.std.proofs.Common.{refl}
use Rattle.ip_codec.specs.Packet4.{packet4, whole4}
use Rattle.packet_cases.proofs.sending.policy_on.Goals as goal

pub record-requires-clause-fits : goal.record-requires-clause-fits
record-requires-clause-fits c = let p = packet4 c.args.inner.view in (tt, (p, (whole4 p, refl, c.args.inner.alone)))
