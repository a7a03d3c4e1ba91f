use Rattle.std.proofs.Common.{rules, arith}
use Rattle.area_swap.proofs.Belonging.{knows_plan}
use Rattle.area_swap.proofs.WorkerSteps.{glances}
use Rattle.area_swap.proofs.areas.Areas.tally.Goals as goal

pub load-requires : goal.load-requires
load-requires c =
    (search rules, omega (arith, c.self.invariant.2), glances _ _ _ _ (knows_plan _ _ _ _ _ _ _ c.self.view_is c.seat.view_is c.requires.areas c.self.invariant.0))
