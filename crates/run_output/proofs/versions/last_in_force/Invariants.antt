use Rattle.std.proofs.Common.{◌-◌, ◌≤◌, length}
use Rattle.run_output.specs.Versions.{AreTold, EndsInForce}
use Rattle.run_output.proofs.VersionLemmas.{AreRefused}
use Rattle.run_output.proofs.versions.last_in_force.Given as goal

abbrev pub invariant-slots : goal.invariant-slots
invariant-slots l = record {
  after : l.printed ≤ l.last;
  inside : l.last ≤ l.at;
  before : l.at ≤ length l.slots;
  refused : AreRefused l.slots l.last l.at;
  ends : EndsInForce l.points l.slots l.printed l.last;
  told : AreTold l.points l.slots l.printed l.last;
}

abbrev pub decreases-slots : goal.decreases-slots
decreases-slots l = length l.slots - l.at
