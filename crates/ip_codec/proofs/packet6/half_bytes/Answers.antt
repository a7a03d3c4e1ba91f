use Rattle.std.proofs.Common.{◌∙◌, ap}
use Rattle.std.specs.Int.{w64, to_le_bytes}
use Rattle.ip_codec.proofs.HalfLemmas.{half-turned}
use Rattle.ip_codec.proofs.packet6.half_bytes.Goals as goal

pub returns : goal.returns
returns c = c.to_le_bytes.ensures ∙ ap (to_le_bytes w64) c.swap_bytes.ensures ∙ half-turned c.args.half
