use Rattle.gate_cases.proofs.Phases.{asked}
use Rattle.gate_cases.proofs.reloads.a_held_area_ends_a_reload.Goals as goal

pub settle-requires-clause-phase : goal.settle-requires-clause-phase
settle-requires-clause-phase g c = asked c.due.result c.in_ok-areas.areas.plan c.reload.new.desk.known c.due.new.desk.known c.due.ensures.due
