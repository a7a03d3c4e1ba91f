use Rattle.swap_core.specs.Plans.{AreAlike}
use Rattle.area_swap.proofs.changes.differs.Given as goal

abbrev pub invariant-words : goal.invariant-words
invariant-words l = record { alike : AreAlike l.standing l.next l.first l.place }
