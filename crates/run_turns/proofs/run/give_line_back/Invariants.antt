use Rattle.std.proofs.Common.{length, ◌≡◌, ◌≢◌, ℕ, []}
use Rattle.std.specs.Prelude.{slice_index_or}
use Rattle.round_pipeline.specs.Pipelines.{buffers_left}
use Rattle.run_turns.proofs.Giving.{LineGiven}
use Rattle.run_turns.proofs.run.give_line_back.Given as goal

-- what is left of the worker's buffers is still to be given back
abbrev pub invariant-buffers : goal.invariant-buffers
invariant-buffers g l =
    LineGiven g.N.Naming.areas (λ t. t.seat) (slice_index_or (buffers_left l.initial.finished) l.worker []) (slice_index_or (buffers_left l.finished) l.worker [])
    l.initial.finished.source.dealer.seat l.finished.source.dealer.seat
    × (((i : ℕ) → i ≢ l.worker → slice_index_or (buffers_left l.finished) i [] ≡ slice_index_or (buffers_left l.initial.finished) i [])
    × ((l.finished.source ≡ record l.initial.finished.source { dealer = record l.initial.finished.source.dealer { seat = l.finished.source.dealer.seat } })
    × ((l.finished.sink ≡ l.initial.finished.sink) × (l.finished.answer ≡ l.initial.finished.answer))))

abbrev pub decreases-buffers : goal.decreases-buffers
decreases-buffers g l = length (slice_index_or (buffers_left l.finished) l.worker [])
