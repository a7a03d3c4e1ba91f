use Rattle.packet_render.proofs.ByteLemmas.{of_bytes}
use Rattle.packet_render.proofs.laws.bytes_are_enough.Goals as goal

pub returns : goal.returns
returns c = of_bytes
