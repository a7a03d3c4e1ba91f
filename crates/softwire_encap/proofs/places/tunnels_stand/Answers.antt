use Rattle.softwire_encap.proofs.PlaceLemmas.{tunnel_stands}
use Rattle.softwire_encap.proofs.places.tunnels_stand.Goals as goal

pub returns : goal.returns
returns c = tunnel_stands
