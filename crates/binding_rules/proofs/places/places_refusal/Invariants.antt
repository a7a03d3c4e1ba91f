use Rattle.binding_rules.specs.Scans.{AreSound}
use Rattle.binding_rules.proofs.places.places_refusal.Given as goal

abbrev pub invariant-places : goal.invariant-places
invariant-places l = AreSound l.own.0 l.bindings l.place
