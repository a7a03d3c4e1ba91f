use Rattle.packet_render.proofs.EndLemmas.{errors_reach_owners}
use Rattle.packet_render.proofs.laws.errors_are_private.Goals as goal

pub returns : goal.returns
returns c = errors_reach_owners
