use Rattle.std.proofs.Common.{Bool, List, arith, ap, false, inl, inr, length, map, subst, sym, ℕ, ◌++◌, ◌<◌, ◌∙◌, ◌≡◌, ◌⊎◌}
use Rattle.std.proofs.lemmas.Bool.{cases_eq}
use Rattle.std.proofs.lemmas.List.{length-map}
use Rattle.std.specs.Prelude.{IsSome, Option, slice_index_or}
use Rattle.round_pipeline.specs.Pipelines.{IsReady, IsRunning, buffers_left, judges_of}
use Rattle.rtrb.specs.Ring.{known_items, received, sent}
use Rattle.round_pipeline.specs.Lists.{buffers}
use Rattle.round_pipeline.specs.Rounds.{HasRun}
use Rattle.round_pipeline.proofs.Joins.{first_of}
use Rattle.round_pipeline.proofs.Ran.{has_run}
use Rattle.round_pipeline.proofs.pipeline.Pipeline.run.Goals as goal

pub run_alone-requires-clause-ready : goal.run_alone-requires-clause-ready
run_alone-requires-clause-ready g c =
    let R : ℕ → Type 0 = λ k. IsReady g.S.Source.fills g.J.Judge.judges g.W.Sink.puts g.S.Source.ready g.J.Judge.ready g.W.Sink.ready k c.begin-finished.result in
    subst R (sym c.begin-finished.ensures.ran.6.sizes.1) c.begin-finished.ensures.ready

pub settle-requires-clause-some : goal.settle-requires-clause-some
settle-requires-clause-some g c =
    let begun = c.begin-finished.ensures.ran in
    let R : ℕ → Type 0 = λ k. IsRunning g.S.Source.fills g.J.Judge.judges g.W.Sink.puts k c.args.source begun.0 c.args.sink begun.1 c.begin-finished.result in
    let on = c.run_alone.ensures.running c.args.source begun.0 c.args.sink begun.1 (subst R (sym begun.6.sizes.1) begun.6) in
    (omega (arith, on.sizes.0, begun.6.sizes.1, c.requires.some), omega (arith, on.sizes.2, begun.6.sizes.1, c.requires.some))

pub settle-requires-clause-pair : goal.settle-requires-clause-pair
settle-requires-clause-pair g c =
    let begun = c.begin-finished.ensures.ran in
    let R : ℕ → Type 0 = λ k. IsRunning g.S.Source.fills g.J.Judge.judges g.W.Sink.puts k c.args.source begun.0 c.args.sink begun.1 c.begin-finished.result in
    let on = c.run_alone.ensures.running c.args.source begun.0 c.args.sink begun.1 (subst R (sym begun.6.sizes.1) begun.6) in
    λ r w. on.pairs 0 r w (omega (arith, begun.6.sizes.1, c.requires.some))

pub returns-clause-ready : goal.returns-clause-ready
returns-clause-ready g c =
    let begun = c.begin-finished.ensures.ran in
    let ready = c.run_alone.ensures.ready in
    let same = c.settle.ensures.same in
    let RS : g.row.S.Denot → Type 0 = λ x. g.S.Source.ready x in
    let RW : g.row.W.Denot → Type 0 = λ x. g.W.Sink.ready x in
    let R : ℕ → Type 0 = λ k. IsRunning g.S.Source.fills g.J.Judge.judges g.W.Sink.puts k c.args.source begun.0 c.args.sink begun.1 c.begin-finished.result in
    let on = c.run_alone.ensures.running c.args.source begun.0 c.args.sink begun.1 (subst R (sym begun.6.sizes.1) begun.6) in (
      subst RS (sym same.0) ready.source,
      subst RW (sym same.2) ready.sink,
      (λ k d fits. rw same.1 (ready.judges_ready k d (omega (arith, fits, ap (λ (x : _). length x.items) same.1, on.sizes.1)))),
    )

pub returns-clause-ran : goal.returns-clause-ran
returns-clause-ran g c =
    let n = length c.args.self.judges in
    let begun = c.begin-finished.ensures.ran in
    let f = c.run_alone.new.run in
    let now = c.settle.new.run in
    let some : 0 < n = c.requires.some in
    let same = c.settle.ensures.same in
    let R : ℕ → Type 0 = λ k. IsRunning g.S.Source.fills g.J.Judge.judges g.W.Sink.puts k c.args.source begun.0 c.args.sink begun.1 c.begin-finished.result in
    let R1 : ℕ → Type 0 = λ k. IsRunning g.S.Source.fills g.J.Judge.judges g.W.Sink.puts k c.args.source begun.0 c.args.sink begun.1 f in
    let on = subst R1 begun.6.sizes.1 (c.run_alone.ensures.running c.args.source begun.0 c.args.sink begun.1 (subst R (sym begun.6.sizes.1) begun.6)) in
    let settled = c.settle.ensures.running n c.args.source begun.0 c.args.sink begun.1 some on in
    let many : length begun.0 ≡ n = sym (length-map begun.0 (λ s. s.judge)) ∙ ap (λ (x : List g.row.J.Denot). length x) begun.2 in
    let E1 : Bool → Type 0 = λ b. (b ≡ false) ⊎ IsSome f.answer in
    let E2 : Option g.row.E.Denot → Type 0 = λ a. (now.more ≡ false) ⊎ IsSome a in
    let H1 : List g.row.J.Denot → Type 0 = λ x. HasRun g.S.Source.fills g.J.Judge.judges g.W.Sink.puts n c.args.source x c.args.sink
    (map (λ w. buffers (sent w.back)) begun.1)
    now.source (judges_of now.seats.items) now.sink (buffers_left now) now.answer in
    let H2 : List (List g.row.T.Denot) → Type 0 = λ x. HasRun g.S.Source.fills g.J.Judge.judges g.W.Sink.puts n c.args.source c.args.self.judges c.args.sink x
    now.source (judges_of now.seats.items) now.sink (buffers_left now) now.answer in
    subst H2 begun.3 (subst H1 begun.2
    (has_run g.S.Source.fills g.J.Judge.judges g.W.Sink.puts n begun.0 begun.1 now
    (first_of now.reads.items (omega (arith, some, settled.sizes.0))) (first_of begun.0 (omega (arith, some, many))) (first_of begun.1 (omega (arith, some, begun.4)))
    many begun.4 settled (λ i d l. begun.5 i d (omega (arith, l, begun.4)))
    (λ i r w l. elim (cases_eq i 0) [
      | inl zeroth ↦
          let L : ℕ → Type 0 = λ k. received (slice_index_or now.reads.items k r).back ++ known_items (slice_index_or now.reads.items k r).back ≡ sent (slice_index_or now.writes.items k w).back in
          subst L (sym zeroth) (c.settle.ensures.left r w)
      | inr other ↦ settled.left i r w l other
    ])
    (subst E2 (sym same.3) (subst E1 (sym same.4) c.run_alone.ensures.ended))))
