use Rattle.reassembly_lane.specs.Lanes.{arrival}
use Rattle.reassembly_lane.proofs.Zips.{follows_ok}
use Rattle.reassembly_lane.proofs.lane.Lane.feed.Goals as goal

pub returns-clause-history : goal.returns-clause-history
returns-clause-history g c = follows_ok g.K.Ord.cmp (arrival c.args.piece) c.args.self.now c.take.new.self c.take.result c.take.ensures.answer c.take.ensures.ended
