use Rattle.std.proofs.Common.{rules}
use Rattle.ip_codec.proofs.HalfLemmas.{halves}
use Rattle.ip_codec.proofs.packet6.address_bytes.Goals as goal

pub returns : goal.returns
returns c = halves c.args.address.0 _ _ (search rules) (search rules)
