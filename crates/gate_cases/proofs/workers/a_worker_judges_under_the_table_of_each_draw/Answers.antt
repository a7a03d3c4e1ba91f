use Rattle.gate_cases.proofs.Compiled.{same_compiled}
use Rattle.gate_cases.proofs.workers.a_worker_judges_under_the_table_of_each_draw.Goals as goal

pub serve-first-requires-clause-compiled : goal.serve-first-requires-clause-compiled
serve-first-requires-clause-compiled g c =
    same_compiled c.in_ok-two_tables.field-0 c.in_ok-areas.areas.plan c.in_ok-areas.ensures.areas c.in_ok-two_tables.ensures

pub serve-second-requires-clause-compiled : goal.serve-second-requires-clause-compiled
serve-second-requires-clause-compiled g c =
    same_compiled c.in_ok-two_tables.field-0 c.in_ok-areas.areas.plan c.in_ok-areas.ensures.areas c.in_ok-two_tables.ensures
