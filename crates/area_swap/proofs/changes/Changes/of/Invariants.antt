use Rattle.area_swap.proofs.ChangeLemmas.{UpTo}
use Rattle.area_swap.proofs.changes.Changes.of.Given as goal

abbrev pub invariant-listing : goal.invariant-listing
invariant-listing l = record { changes : UpTo l.standing l.next l.block l.blocks.items }
