use Rattle.reassembly_lane.proofs.Datagrams.{datagram_holds}
use Rattle.reassembly_lane.proofs.consequences.datagrams_hold_their_pieces.Goals as goal

pub returns : goal.returns
returns c = datagram_holds
