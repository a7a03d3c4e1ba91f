use Rattle.std.proofs.Common.{◌≡◌, length, replicate}
use Rattle.swap_core.specs.Plans.{width}
use Rattle.area_swap.specs.Changes.{EachIsListed}
use Rattle.area_swap.proofs.changes.changes_of.Given as goal

abbrev pub invariant-versions : goal.invariant-versions
invariant-versions l =
    record {
      many : length l.lists.items ≡ l.version;
      each : EachIsListed l.plan l.lists.items;
      zeros : l.zeros.items ≡ replicate (width l.plan) 0;
    }
