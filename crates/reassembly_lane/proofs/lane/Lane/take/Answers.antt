use Rattle.reassembly_lane.proofs.Begins.{reads_none_late}
use Rattle.reassembly_lane.proofs.lane.Lane.take.Goals as goal

pub take_in_time-requires : goal.take_in_time-requires
take_in_time-requires g c = reads_none_late c.args.piece.time c.self.inside.oldest c.self.inside.contexts.entries c.args.self.now c.self.view_is c.self.invariant c.if-waits.ensures
