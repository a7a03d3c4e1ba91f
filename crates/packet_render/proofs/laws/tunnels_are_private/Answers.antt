use Rattle.packet_render.proofs.PrivateLemmas.{tunnels_are_owners}
use Rattle.packet_render.proofs.laws.tunnels_are_private.Goals as goal

pub returns : goal.returns
returns c = λ t i number lawful. tunnels_are_owners t i number lawful
