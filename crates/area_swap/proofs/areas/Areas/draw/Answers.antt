use Rattle.std.proofs.Common.{subst, sym}
use Rattle.area_swap.specs.declared.answers.Draw.{Draw}
use Rattle.area_swap.specs.Answers.{Drawn}
use Rattle.area_swap.specs.Views.{held_version}
use Rattle.area_swap.proofs.Drawing.{one_drawn}
use Rattle.area_swap.proofs.areas.Areas.draw.Goals as goal

pub returns-clause-drawn : goal.returns-clause-drawn
returns-clause-drawn c =
    let P : Draw → Type 0 = λ r. Drawn r c.args.self.now.plan c.args.end (held_version c.args.seat.now.known) c.args.seat.now.known c.draw_run.new.seat.known in
    subst P (sym c.one.ensures) (one_drawn _ _ _ _ _ _ c.draw_run.ensures.drawn)
