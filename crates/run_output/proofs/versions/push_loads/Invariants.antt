use Rattle.std.proofs.Common.{◌≡◌, ◌++◌, ◌-◌, ◌≤◌}
use Rattle.std.specs.Prelude.{string_bytes}
use Rattle.aftr_base.specs.Appended.{Extends}
use Rattle.run_output.specs.Versions.{between, load_lines, named}
use Rattle.run_output.proofs.versions.push_loads.Given as goal

abbrev pub invariant-loads : goal.invariant-loads
invariant-loads l = record {
  after : l.from ≤ l.at;
  before : l.at ≤ l.to;
  left : string_bytes l.lines ++ load_lines l.points (between l.at l.to (named l.loads l.slots))
      ≡ string_bytes l.initial.lines ++ load_lines l.points (between l.from l.to (named l.loads l.slots));
  kept : Extends (string_bytes l.initial.lines) (string_bytes l.lines);
}

abbrev pub decreases-loads : goal.decreases-loads
decreases-loads l = l.to - l.at
