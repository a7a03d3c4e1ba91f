use Rattle.std.proofs.Common.{ap, refl, subst, sym, ◌∙◌, []}
use Rattle.std.specs.Prelude.{slice_index_or}
use Rattle.round_pipeline.specs.Pipelines.{buffers_left}
use Rattle.run_turns.specs.declared.source.Intake.{Intake}
use Rattle.run_turns.proofs.Giving.{LineGiven, line_away, line_more, line_none}
use Rattle.run_turns.proofs.run.give_line_back.Goals as goal

pub buffers-init : goal.buffers-init
buffers-init g c = (
  line_none g.N.Naming.areas (λ t. t.seat) _ c.requires.seat.0 c.requires.seat.1,
  (λ i other. refl, (refl, (refl, refl))),
)

pub buffers-preserved-in-Some-seat_of : goal.buffers-preserved-in-Some-seat_of
buffers-preserved-in-Some-seat_of g c =
    let areas = g.N.Naming.areas in
    let known = c.buffers.invariant in
    let took = c.in-Some.ensures in
    let same = took.others in
    let free = c.in-Some-seat_of.ensures in
    let back = c.take_back.ensures in
    let source = same.source ∙ known.1.1.0 in
    let its = ap (λ s. s.dealer.areas.now) source ∙ c.requires.its_areas in
    let given = subst (λ s. LineGiven areas (λ t. t.seat) (slice_index_or (buffers_left c.args.finished.now) c.args.worker [])
    (slice_index_or (buffers_left c.buffers.finished) c.args.worker []) c.args.finished.now.source.dealer.seat s)
    (sym (ap (λ s. s.dealer.seat) same.source)) known.0 in (
      line_more areas (λ t. t.seat) c.in-Some-seat_of.free.known given took.some free.share free.reads (rw (← its) back.areas) back.idle back.joined back.draws back.right,
      (
        λ i other. same.others i other ∙ known.1.0 i other,
        (
          ap {A = Intake g.row.N.Denot g.row.R.Denot g.row.I.Denot g.row.C.Denot} (λ s. record s { dealer = record s.dealer { seat = c.take_back.new.seat } }) source,
          (same.sink ∙ known.1.1.1.0, same.answer ∙ known.1.1.1.1),
        ),
      ),
    )

pub buffers-preserved : goal.buffers-preserved
buffers-preserved g c =
    let areas = g.N.Naming.areas in
    let known = c.buffers.invariant in
    let took = c.in-Some.ensures in
    let same = took.others in
    let none = c.in_default-seat_of.ensures.none in
    let source = same.source ∙ known.1.1.0 in
    let given = subst (λ s. LineGiven areas (λ t. t.seat) (slice_index_or (buffers_left c.args.finished.now) c.args.worker [])
    (slice_index_or (buffers_left c.buffers.finished) c.args.worker []) c.args.finished.now.source.dealer.seat s)
    (sym (ap (λ s. s.dealer.seat) same.source)) known.0 in (
      line_away areas (λ t. t.seat) given took.some none.0 none.1,
      (
        λ i other. same.others i other ∙ known.1.0 i other,
        (
          ap {A = Intake g.row.N.Denot g.row.R.Denot g.row.I.Denot g.row.C.Denot} (λ s. record s { dealer = record s.dealer { seat = c.take_buffer.new.self.source.dealer.seat } }) source,
          (same.sink ∙ known.1.1.1.0, same.answer ∙ known.1.1.1.1),
        ),
      ),
    )
