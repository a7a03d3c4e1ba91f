use Rattle.std.proofs.Common.{length, ℕ, ◌-◌, ◌<◌, ◌≤◌, ◌≡◌}
use Rattle.std.specs.Prelude.{slice_index_or}
use Rattle.round_pipeline.specs.Ends.{HaveMet}
use Rattle.round_pipeline.proofs.meeting.meet_all.Given as goal

abbrev pub decreases-lines : goal.decreases-lines
decreases-lines g l = length l.initial.reads - l.at

abbrev pub invariant-lines : goal.invariant-lines
invariant-lines g l = record {
  at : l.at ≤ length l.initial.reads;
  met : (i : ℕ) (r : _) (j : _) (w : _) → i < l.at →
      HaveMet (slice_index_or l.initial.reads i r) (slice_index_or l.initial.seats i j).line (slice_index_or l.initial.writes i w)
      (slice_index_or l.reads i r) (slice_index_or l.writes i w);
  judges : (i : ℕ) (j : _) → i < l.at → (slice_index_or l.seats i j).judge ≡ (slice_index_or l.initial.seats i j).judge;
  reads : (i : ℕ) (d : _) → l.at ≤ i → slice_index_or l.reads i d ≡ slice_index_or l.initial.reads i d;
  seats : (i : ℕ) (d : _) → l.at ≤ i → slice_index_or l.seats i d ≡ slice_index_or l.initial.seats i d;
  writes : (i : ℕ) (d : _) → l.at ≤ i → slice_index_or l.writes i d ≡ slice_index_or l.initial.writes i d;
}
