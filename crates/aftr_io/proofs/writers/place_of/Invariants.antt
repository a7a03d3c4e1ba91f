use Rattle.std.proofs.Common.{◌≢◌, ℕ, ◌<◌, string_bytes}
use Rattle.std.specs.Prelude.{slice_index_or}
use Rattle.aftr_io.proofs.writers.place_of.Given as goal

abbrev pub invariant-writers : goal.invariant-writers
invariant-writers g l = (k : ℕ) (other : _) → k < l.place → string_bytes (slice_index_or l.writers k other).name ≢ l.name
