use Rattle.lwaftr_engine.proofs.Words.{◌≡◌, ◌≤◌, ◌-◌, length, drop, some_slot_refused}
use Rattle.lwaftr_engine.proofs.jobs.has_refused.Given as goal

abbrev pub invariant-slots : goal.invariant-slots
invariant-slots l = record { within : l.i ≤ length l.slots; left : some_slot_refused (drop l.i l.slots) ≡ some_slot_refused l.slots }

abbrev pub decreases-slots : goal.decreases-slots
decreases-slots l = length l.slots - l.i
