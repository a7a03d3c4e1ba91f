use Rattle.std.proofs.Common.{All, arith, ap, length, refl, subst, sym, ◌∙◌, ◌≡◌}
use Rattle.std.proofs.lemmas.List.{length-map}
use Rattle.round_pipeline.specs.Pipelines.{Crew}
use Rattle.round_pipeline.proofs.Begins.{all_judges, running_begins}
use Rattle.round_pipeline.proofs.Joins.{first_of}
use Rattle.round_pipeline.proofs.running.without_threads.Goals as goal

pub meet_lines-requires-clause-lines : goal.meet_lines-requires-clause-lines
meet_lines-requires-clause-lines g c = λ i r j w l. (c.pipeline.invariant.lines i r j w l).ends

pub returns-clause-ready : goal.returns-clause-ready
returns-clause-ready g c =
    let p = c.pipeline.inside in
    let n = length c.args.pipeline.judges in
    let R = g.J.Judge.ready in
    let A : Crew g.row.J.Denot g.row.T.Denot → Type 0 = λ x. All (λ j. R j) x.judges in
    let seats : n ≡ length p.seats.items = ap (λ (x : Crew g.row.J.Denot g.row.T.Denot). length x.judges) (sym c.pipeline.view_is) ∙ length-map p.seats.items (λ s. s.judge) in
    record {
      source = c.requires.ready.0;
      judges_ready = λ i d l. subst R (sym (c.meet_lines.ensures.judges i d (omega (arith, l, seats, c.pipeline.invariant.sizes.0))))
          (all_judges R p.seats.items (subst A (sym c.pipeline.view_is) c.requires.ready.2) i d (omega (arith, l, seats)));
      sink = c.requires.ready.1;
    }

pub returns-clause-ran : goal.returns-clause-ran
returns-clause-ran g c =
    let p = c.pipeline.inside in
    let new = c.pipeline.invariant in
    let n = length c.args.pipeline.judges in
    let seats : n ≡ length p.seats.items = ap (λ (x : Crew g.row.J.Denot g.row.T.Denot). length x.judges) (sym c.pipeline.view_is) ∙ length-map p.seats.items (λ s. s.judge) in
    let reads : length p.reads.items ≡ n = omega (arith, seats, new.sizes.0) in
    let met = c.meet_lines.ensures in
    let r0 = first_of p.reads.items (omega (arith, reads, c.requires.some)) in
    let j0 = first_of p.seats.items (omega (arith, seats, c.requires.some)) in
    let w0 = first_of p.writes.items (omega (arith, reads, new.sizes.1, c.requires.some)) in (
      p.seats.items,
      p.writes.items,
      ap (λ (x : Crew g.row.J.Denot g.row.T.Denot). x.judges) c.pipeline.view_is,
      ap (λ (x : Crew g.row.J.Denot g.row.T.Denot). x.buffers) c.pipeline.view_is,
      omega (arith, reads, new.sizes.1),
      (λ i d l. (new.lines i r0 j0 d (omega (arith, l, new.sizes.1))).back_sent),
      running_begins g.S.Source.fills g.J.Judge.judges g.W.Sink.puts n p.reads.items p.seats.items p.writes.items _ r0 j0 w0 new reads refl refl
          (met.sizes.0 ∙ reads, met.sizes.1 ∙ reads, met.sizes.2 ∙ reads)
          (λ i r j w l. met.met i r j w (omega (arith, l, reads))) (λ i j l. met.judges i j (omega (arith, l, reads))),
    )
