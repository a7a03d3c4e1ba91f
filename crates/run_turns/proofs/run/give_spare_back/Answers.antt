use Rattle.run_turns.proofs.Giving.{spare_more}
use Rattle.run_turns.proofs.run.give_spare_back.Goals as goal

pub seats-preserved : goal.seats-preserved
seats-preserved c =
    let back = c.take_back.ensures in
    spare_more _ c.seats.invariant c.in-Some.ensures.items back.areas back.idle back.joined back.draws back.right
