use Rattle.std.proofs.Common.{◌≢◌, ℕ, ◌<◌}
use Rattle.aftr_io.specs.Entries.{name_at}
use Rattle.aftr_io.proofs.shelf.place.Given as goal

abbrev pub invariant-entries : goal.invariant-entries
invariant-entries l = (k : ℕ) → k < l.index → name_at l.list k ≢ l.name
