use Rattle.std.proofs.Common.{◌+◌, ◌<◌, ℕ}
use Rattle.std.specs.Prelude.{slice_index_or}
use Rattle.swap_core.specs.Plans.{IsNotBefore, always}
use Rattle.aftr_text.specs.Jobs.{windows_of}
use Rattle.aftr_text.proofs.fields.first_fall.Given as goal

abbrev pub invariant-loads : goal.invariant-loads
invariant-loads l = (k : ℕ) → k + 1 < l.next → IsNotBefore (slice_index_or (windows_of l.loads) (k + 1) always) (slice_index_or (windows_of l.loads) k always)
