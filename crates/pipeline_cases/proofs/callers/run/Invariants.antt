use Rattle.std.proofs.Common.{All, length, ◌<◌, ◌≡◌}
use Rattle.pipeline_cases.proofs.callers.run.Given as goal

abbrev pub invariant-workers : goal.invariant-workers
invariant-workers g l = record {
  many : length l.pipeline.judges ≡ l.number;
  buffers : All (λ bs. 0 < length bs) l.pipeline.buffers;
}
