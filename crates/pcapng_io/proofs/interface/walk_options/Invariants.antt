-- What was found, and what the options that are left give.
use Rattle.std.proofs.Common.{ℕ, ◌+◌, ◌-◌, ◌≡◌, ◌≤◌, List, length}
use Rattle.capture_io.specs.Fronts.{IsStart}
use Rattle.pcapng_io.specs.Long.{all_from}
use Rattle.pcapng_io.proofs.interface.walk_options.Given as goal

abbrev pub invariant-options : goal.invariant-options
invariant-options l = record {
  behind : l.fn.from ≤ l.place;
  inside : l.place ≤ l.end + 3;
  gives : (bytes : List ℕ) → IsStart l.first bytes → l.end ≤ length bytes → all_from l.big bytes l.at l.fn.from l.end l.fn.given ≡ all_from l.big bytes l.at l.place l.end l.found;
}

abbrev pub decreases-options : goal.decreases-options
decreases-options l = l.end + 4 - l.place
