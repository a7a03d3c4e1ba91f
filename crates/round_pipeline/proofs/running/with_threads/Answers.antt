use Rattle.std.proofs.Common.{All, Bool, None, arith, ap, length, refl, subst, sym, ℕ, ◌∙◌}
use Rattle.std.proofs.lemmas.List.{length-map}
use Rattle.rtrb.specs.Ring.{received}
use Rattle.round_pipeline.specs.Pipelines.{Crew, IsReady, IsRunning}
use Rattle.round_pipeline.specs.Threads.{IsWriting}
use Rattle.round_pipeline.proofs.Begins.{all_judges, desk_begins, writing_begins}
use Rattle.round_pipeline.proofs.Joins.{first_of}
use Rattle.round_pipeline.proofs.running.with_threads.Goals as goal

pub run_in_threads-requires-clause-some : goal.run_in_threads-requires-clause-some
run_in_threads-requires-clause-some g c =
    let e = ap (λ (x : Crew g.row.J.Denot g.row.T.Denot). length x.judges) (sym c.pipeline.view_is) ∙ length-map c.pipeline.inside.seats.items (λ s. s.judge) in
    λ _ _. omega (arith, e, c.requires.some)

pub run_in_threads-requires-clause-desk : goal.run_in_threads-requires-clause-desk
run_in_threads-requires-clause-desk g c =
    let p = c.pipeline.inside in
    let new = c.pipeline.invariant in
    let e = ap (λ (x : Crew g.row.J.Denot g.row.T.Denot). length x.judges) (sym c.pipeline.view_is) ∙ length-map p.seats.items (λ s. s.judge) in
    let j0 = first_of p.seats.items (omega (arith, e, c.requires.some)) in
    let w0 = first_of p.writes.items (omega (arith, e, new.sizes.0, new.sizes.1, c.requires.some)) in
    λ _ _. (
      desk_begins g.S.Source.ready g.S.Source.fills _ c.requires.ready.0 refl refl c.requires.order.1
          (λ i d l. ((new.lines i d j0 w0 l).work_sent, (new.lines i d j0 w0 l).back_taken)),
      refl,
    )

pub run_in_threads-requires-clause-all : goal.run_in_threads-requires-clause-all
run_in_threads-requires-clause-all g c =
    let p = c.pipeline.inside in
    let new = c.pipeline.invariant in
    let R = g.J.Judge.ready in
    let A : Crew g.row.J.Denot g.row.T.Denot → Type 0 = λ x. All (λ j. R j) x.judges in
    let e = ap (λ (x : Crew g.row.J.Denot g.row.T.Denot). length x.judges) (sym c.pipeline.view_is) ∙ length-map p.seats.items (λ s. s.judge) in
    let r0 = first_of p.reads.items (omega (arith, e, new.sizes.0, c.requires.some)) in
    let w0 = first_of p.writes.items (omega (arith, e, new.sizes.0, new.sizes.1, c.requires.some)) in
    λ _ _ k d fits. record {
      ready_now = all_judges R p.seats.items (subst A (sym c.pipeline.view_is) c.requires.ready.2) k d fits;
      took_none = (new.lines k r0 d w0 (omega (arith, fits, new.sizes.0))).work_taken;
      gave_none = (new.lines k r0 d w0 (omega (arith, fits, new.sizes.0))).made_sent;
    }

pub run_in_threads-requires-clause-write : goal.run_in_threads-requires-clause-write
run_in_threads-requires-clause-write g c =
    let p = c.pipeline.inside in
    let new = c.pipeline.invariant in
    let n = length p.seats.items in
    let e = ap (λ (x : Crew g.row.J.Denot g.row.T.Denot). length x.judges) (sym c.pipeline.view_is) ∙ length-map p.seats.items (λ s. s.judge) in
    let r0 = first_of p.reads.items (omega (arith, e, new.sizes.0, c.requires.some)) in
    let j0 = first_of p.seats.items (omega (arith, e, c.requires.some)) in
    let W : Bool → Type 0 = λ b. IsWriting g.W.Sink.puts n c.args.sink p.writes.items (received c.args.order.end.turns) b c.args.sink None p.writes.items in
    λ _ _. (
      record {
        ready_now = c.requires.ready.1;
        writing = subst W (sym c.requires.order.3) (writing_begins g.W.Sink.puts n c.args.sink p.writes.items (received c.args.order.end.turns)
            (new.sizes.1 ∙ sym new.sizes.0) c.requires.order.2 (λ i d l. (new.lines i r0 j0 d (omega (arith, l, new.sizes.0))).made_taken));
      },
      c.requires.order.3,
    )

pub run_in_threads-requires-clause-lines : goal.run_in_threads-requires-clause-lines
run_in_threads-requires-clause-lines g c = λ _ _ i r j w l. (c.pipeline.invariant.lines i r j w (omega (arith, l, c.pipeline.invariant.sizes.0))).ends

pub returns-clause-ready : goal.returns-clause-ready
returns-clause-ready g c =
    let p = c.pipeline.inside in
    let e = ap (λ (x : Crew g.row.J.Denot g.row.T.Denot). length x.judges) (sym c.pipeline.view_is) ∙ length-map p.seats.items (λ s. s.judge) in
    let R : ℕ → Type 0 = λ k. IsReady g.S.Source.fills g.J.Judge.judges g.W.Sink.puts g.S.Source.ready g.J.Judge.ready g.W.Sink.ready k c.run_in_threads.result in
    subst R (sym e) c.run_in_threads.ensures.ready

pub returns-clause-ran : goal.returns-clause-ran
returns-clause-ran g c =
    let p = c.pipeline.inside in
    let new = c.pipeline.invariant in
    let e = ap (λ (x : Crew g.row.J.Denot g.row.T.Denot). length x.judges) (sym c.pipeline.view_is) ∙ length-map p.seats.items (λ s. s.judge) in
    let r0 = first_of p.reads.items (omega (arith, e, new.sizes.0, c.requires.some)) in
    let j0 = first_of p.seats.items (omega (arith, e, c.requires.some)) in
    let R : ℕ → Type 0 = λ k. IsRunning g.S.Source.fills g.J.Judge.judges g.W.Sink.puts k c.args.source p.seats.items c.args.sink p.writes.items c.run_in_threads.result in (
      p.seats.items,
      p.writes.items,
      ap (λ (x : Crew g.row.J.Denot g.row.T.Denot). x.judges) c.pipeline.view_is,
      ap (λ (x : Crew g.row.J.Denot g.row.T.Denot). x.buffers) c.pipeline.view_is,
      omega (arith, e, new.sizes.0, new.sizes.1),
      (λ i d l. (new.lines i r0 j0 d (omega (arith, l, new.sizes.1))).back_sent),
      subst R (sym e) c.run_in_threads.ensures.ran,
    )
