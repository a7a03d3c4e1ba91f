use Rattle.std.proofs.Common.{length, ℕ, ◌-◌, ◌<◌, ◌≤◌, ◌≡◌}
use Rattle.std.specs.Prelude.{slice_index_or}
use Rattle.round_pipeline.specs.Ends.{SameReadEnd, WasEnded}
use Rattle.round_pipeline.proofs.capture.end_lines.Given as goal

abbrev pub decreases-lines : goal.decreases-lines
decreases-lines g l = length l.initial.lines - l.at

abbrev pub invariant-lines : goal.invariant-lines
invariant-lines g l = record {
  at : l.at ≤ length l.initial.lines;
  same : (i : ℕ) (d : _) → i < l.at → SameReadEnd (slice_index_or l.initial.lines i d) (slice_index_or l.lines i d);
  ended : (i : ℕ) (d : _) → i < l.at → WasEnded (slice_index_or l.initial.lines i d) (slice_index_or l.lines i d);
  rest : (i : ℕ) (d : _) → l.at ≤ i → slice_index_or l.lines i d ≡ slice_index_or l.initial.lines i d;
}
