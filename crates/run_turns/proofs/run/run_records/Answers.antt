use Rattle.std.proofs.Common.{arith, refl}
use Rattle.run_turns.proofs.Leaving.{leaves_later}
use Rattle.run_turns.proofs.run.run_records.Goals as goal

pub returns-clause-leaves : goal.returns-clause-leaves
returns-clause-leaves g c =
    let points = c.settle.ensures.points in
    let nothing = c.settle.ensures.nothing in
    leaves_later c.take_all-taken.result.ended
    (record { same_plan = refl; same_progress = refl; same_draws = nothing.draws; news = points.news; points = points.points; reads = omega (arith, nothing.same_reads) })
    c.take_all-taken.ensures.leaves
