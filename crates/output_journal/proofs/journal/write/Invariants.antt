use Rattle.std.proofs.Common.{false, length, take, ◌-◌, ◌≤◌}
use Rattle.output_journal.specs.Log.{Logged, log_of, output_names}
use Rattle.output_journal.proofs.journal.write.Given as goal

abbrev pub invariant-entries : goal.invariant-entries
invariant-entries g l = let f = g.O.Writing in record {
  within : l.i ≤ length l.entries;
  logged : Logged (output_names l.names) false (log_of (take l.i l.entries)) (f.written l.initial.files) (f.written l.files);
}

abbrev pub decreases-entries : goal.decreases-entries
decreases-entries g l = length l.entries - l.i
