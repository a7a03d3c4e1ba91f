use Rattle.std.proofs.Common.{ap, refl, ◌∙◌}
use Rattle.run_turns.specs.declared.source.Intake.{Intake}
use Rattle.run_turns.proofs.Giving.{lines_more, lines_none}
use Rattle.run_turns.proofs.run.give_lines_back.Goals as goal

pub workers-init : goal.workers-init
workers-init g c = (
  lines_none g.N.Naming.areas (λ t. t.seat) _ c.requires.seat.0 c.requires.seat.1,
  (refl, (refl, refl)),
)

pub give_line_back-requires-clause-its_areas : goal.give_line_back-requires-clause-its_areas
give_line_back-requires-clause-its_areas g c =
    ap (λ s. s.dealer.areas.now) c.workers.invariant.1.0 ∙ c.requires.its_areas

pub give_line_back-requires-clause-seat : goal.give_line_back-requires-clause-seat
give_line_back-requires-clause-seat g c =
    (c.workers.invariant.0.joined.its_areas, c.workers.invariant.0.joined.idle)

pub workers-preserved : goal.workers-preserved
workers-preserved g c =
    let known = c.workers.invariant in
    let line = c.give_line_back.ensures in (
      lines_more g.N.Naming.areas (λ t. t.seat) known.0 line.joined line.others,
      (
        line.source ∙ ap {A = Intake g.row.N.Denot g.row.R.Denot g.row.I.Denot g.row.C.Denot} (λ s. record s { dealer = record s.dealer { seat = c.give_line_back.new.finished.source.dealer.seat } }) known.1.0,
        (line.rest.0 ∙ known.1.1.0, line.rest.1 ∙ known.1.1.1),
      ),
    )
