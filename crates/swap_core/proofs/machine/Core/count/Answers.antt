use Rattle.swap_core.specs.Views.{state_of}
use Rattle.swap_core.proofs.DeskMoves.{count_sound}
use Rattle.swap_core.proofs.machine.Core.count.Goals as goal

pub invariant_of-self : goal.invariant_of-self
invariant_of-self c = (count_sound (state_of c.self.inside) c.self.invariant.0 c.in-Ready.is c.if-claims-ne0.false, c.self.invariant.1)
