use Rattle.gate_cases.proofs.Compiled.{same_compiled}
use Rattle.gate_cases.proofs.rounds.rounds_put_each_outcome_at_its_number.Goals as goal

pub round-requires-2-clause-compiled : goal.round-requires-2-clause-compiled
round-requires-2-clause-compiled g c κs =
    same_compiled c.in_ok-two_tables.field-0 c.in_ok-areas.areas.plan c.in_ok-areas.ensures.areas c.in_ok-two_tables.ensures

pub round-requires-3-clause-compiled : goal.round-requires-3-clause-compiled
round-requires-3-clause-compiled g c κs =
    same_compiled c.in_ok-two_tables.field-0 c.in_ok-areas.areas.plan c.in_ok-areas.ensures.areas c.in_ok-two_tables.ensures
