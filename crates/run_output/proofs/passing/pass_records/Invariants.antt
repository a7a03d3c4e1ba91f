use Rattle.std.proofs.Common.{◌≡◌, ◌+◌, ◌-◌, ◌≤◌, length}
use Rattle.worker_gate.specs.Judging.{HasRead}
use Rattle.run_output.specs.Passing.{HasBegunPass}
use Rattle.run_output.proofs.passing.pass_records.Given as goal

abbrev pub invariant-records : goal.invariant-records
invariant-records g l =
    record {
      inside : l.i ≤ length l.round.records.now;
      number : l.number ≡ l.round.start + l.i;
      begun : HasBegunPass l.round l.i l.initial.judge l.judge l.initial.limit l.limit l.part;
      read : HasRead l.initial.judge l.judge;
    }

abbrev pub decreases-records : goal.decreases-records
decreases-records g l = length l.round.records.now - l.i
