use Rattle.std.proofs.Common.{subst, sym}
use Rattle.reassembly_lane.specs.Since.{Since}
use Rattle.reassembly_lane.proofs.lane.Lane.take_late.Goals as goal

pub invariant_of-self-2 : goal.invariant_of-self-2
invariant_of-self-2 g c = subst (λ l. Since c.feed_among.new.oldest l) (sym c.forget.ensures) c.in_ok-answer.ensures.oldest
