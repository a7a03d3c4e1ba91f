use Rattle.std.proofs.Common.{All, List, ap, arith, length, subst, sym, [], ◌<◌, ◌++◌, ◌∙◌, ◌∷◌, ◌≡◌}
use Rattle.std.proofs.lemmas.List.{length-append}
use Rattle.std.proofs.lemmas.List.Elements.{All-append, All-cons, All-nil}
use Rattle.round_pipeline.specs.Pipelines.{Crew}
use Rattle.pipeline_cases.specs.declared.numbers.Marker.{Marker}
use Rattle.pipeline_cases.specs.declared.numbers.Round.{Round}
use Rattle.pipeline_cases.proofs.callers.run.Goals as goal

pub workers-preserved : goal.workers-preserved
workers-preserved g c =
    let before = c.workers.pipeline in
    let given : List Round = c.in_ok-buffers.buffers.items in
    let added = c.in_ok-add_worker.ensures.added in
    let HasBuffers : List Round → Type 0 = λ bs. 0 < length bs in
    let AllHave : Crew Marker Round → Type 0 = λ p. All HasBuffers p.buffers in
    let grown : length c.add_worker.new.self.judges ≡ length (before.judges ++ c.new.result ∷ []) = ap (λ (p : Crew Marker Round). length p.judges) added in
    record {
      many = omega (arith, grown, length-append before.judges (c.new.result ∷ []), c.workers.invariant.many);
      buffers = subst AllHave (sym added)
          (All-append HasBuffers before.buffers (given ∷ []) c.workers.invariant.buffers (All-cons HasBuffers given [] c.in_ok-buffers.ensures (All-nil HasBuffers)));
    }
