-- The options that were kept, and those that are kept of what is left, are those kept of all.
use Rattle.std.proofs.Common.{◌≡◌, ◌++◌, ◌-◌, ◌≤◌, length, drop}
use Rattle.fragmenter.specs.Kept.{kept}
use Rattle.fragmenter.proofs.options.copied.Given as goal

abbrev pub invariant-options : goal.invariant-options
invariant-options l = record {
  kept : l.list ++ kept (drop l.at l.options) ≡ kept l.options;
  inside : l.at ≤ length l.options;
  no_more : length l.list ≤ l.at;
}

abbrev pub decreases-options : goal.decreases-options
decreases-options l = length l.options - l.at
