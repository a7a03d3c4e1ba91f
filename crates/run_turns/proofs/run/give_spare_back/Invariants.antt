use Rattle.run_turns.proofs.Giving.{SpareGiven}
use Rattle.run_turns.proofs.run.give_spare_back.Given as goal

-- the seats that are left are still to be given back
abbrev pub invariant-seats : goal.invariant-seats
invariant-seats l = SpareGiven l.areas l.initial.seats.items l.seats.items l.initial.seat l.seat

abbrev pub decreases-seats : goal.decreases-seats
decreases-seats l = goal.left-seats l
