use Rattle.reassembly_lane.specs.Lanes.{arrival}
use Rattle.reassembly_lane.proofs.Begins.{reads_fed_in_time, reads_since_in_time, reads_since_open}
use Rattle.reassembly_lane.proofs.lane.Lane.take_in_time.Goals as goal

pub feed_among-requires-clause-oldest : goal.feed_among-requires-clause-oldest
feed_among-requires-clause-oldest g c = reads_since_open c.args.piece.time c.self.inside.oldest c.self.inside.contexts.entries c.self.invariant

pub invariant_of-self-2 : goal.invariant_of-self-2
invariant_of-self-2 g c =
    reads_since_in_time g.K.Ord.cmp c.self.inside.contexts.entries c.feed_among.new.contexts.entries (arrival c.args.piece) c.in_ok-answer.answer c.in_ok-answer.ensures.fed
    c.args.self.now c.feed_among.new.oldest c.self.view_is c.requires c.in_ok-answer.ensures.oldest

pub returns-clause-answer : goal.returns-clause-answer
returns-clause-answer g c = reads_fed_in_time g.K.Ord.cmp c.self.inside.contexts.entries c.feed_among.new.contexts.entries (arrival c.args.piece) c.in_ok-answer.answer c.in_ok-answer.ensures.fed c.args.self.now c.self.view_is c.requires
