use Rattle.std.proofs.Common.{◌≡◌, []}
use Rattle.std.specs.Prelude.{slice_index_or}
use Rattle.round_pipeline.specs.Pipelines.{buffers_left}
use Rattle.run_turns.proofs.Giving.{LinesGiven}
use Rattle.run_turns.proofs.run.give_lines_back.Given as goal

-- the buffers of the first few workers are given back
abbrev pub invariant-workers : goal.invariant-workers
invariant-workers g l =
    LinesGiven g.N.Naming.areas (λ t. t.seat) l.worker (λ i. slice_index_or (buffers_left l.initial.finished) i []) (λ i. slice_index_or (buffers_left l.finished) i [])
    l.initial.finished.source.dealer.seat l.finished.source.dealer.seat
    × ((l.finished.source ≡ record l.initial.finished.source { dealer = record l.initial.finished.source.dealer { seat = l.finished.source.dealer.seat } })
    × ((l.finished.sink ≡ l.initial.finished.sink) × (l.finished.answer ≡ l.initial.finished.answer)))
