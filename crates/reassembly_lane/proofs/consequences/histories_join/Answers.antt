use Rattle.reassembly_lane.proofs.Datagrams.{joined_histories}
use Rattle.reassembly_lane.proofs.consequences.histories_join.Goals as goal

pub returns : goal.returns
returns g c = joined_histories g.K.Ord.cmp
