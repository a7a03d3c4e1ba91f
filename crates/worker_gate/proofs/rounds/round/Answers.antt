use Rattle.std.proofs.Common.{ap, ◌∙◌, arith}
use Rattle.worker_gate.specs.Crews.{CrewValue}
use Rattle.worker_gate.proofs.Ending.{versions_known}
use Rattle.worker_gate.proofs.rounds.round.Goals as goal

pub invariant_of-crew : goal.invariant_of-crew
invariant_of-crew g c =
    let i = c.crew.invariant in (
      record {
        some_one = omega (arith, i.0.some_one, c.run.ensures.sheets.0);
        few = omega (arith, i.0.few, c.run.ensures.sheets.0);
        rooms = c.run.ensures.rooms c.crew.inside.room i.0.rooms;
      },
      omega (arith, i.1, c.run.ensures.sheets.0, c.run.ensures.sheets.1),
      c.run.ensures.workers.0,
      omega (arith, i.3, c.run.ensures.sheets.0, c.run.ensures.workers.1),
      omega (arith, i.4, c.run.ensures.room),
      omega (arith, c.run.ensures.places.1),
      c.run.ensures.places.0,
    )

pub returns-clause-round : goal.returns-clause-round
returns-clause-round g c = c.run.ensures.round

pub returns-clause-crew : goal.returns-clause-crew
returns-clause-crew g c =
    (c.run.ensures.sheets.0 ∙ ap (λ (x : CrewValue). x.workers) c.crew.view_is, ap (λ (x : CrewValue). x.room) c.crew.view_is)

pub returns-clause-versions : goal.returns-clause-versions
returns-clause-versions g c =
    versions_known (g.S.RoundItems.items c.args.work.now.items.now) c.args.work.now.start c.args.work.now.end _ c.args.seat.now.known c.run.new.seat.known _ c.run.ensures.round
    c.run.ensures.settled.drawn c.run.ensures.settled.version
