-- What the source of a packet is told about it.
use Rattle.std.specs.Prelude.{ℕ, List}
use Rattle.aftr_base.specs.declared.numbers.V4.{V4}
use Rattle.icmp_errors.specs.Errors4.{exceeded_bytes, too_big_bytes, unreachable_bytes}
use Rattle.ip_codec.specs.Packet4.{Packet4}
use Rattle.packet_render.specs.declared.replying.Told.{Told}
use Rattle.packet_render.specs.declared.replying.Told.TheVariants as tells

abbrev pub told_bytes : V4 → Told → Packet4 → List ℕ
told_bytes own tells.Unreachable p = unreachable_bytes own p
told_bytes own (tells.TooBig mtu) p = too_big_bytes own mtu p
told_bytes own tells.Exceeded p = exceeded_bytes own p
