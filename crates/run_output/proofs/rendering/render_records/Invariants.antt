use Rattle.std.proofs.Common.{◌≡◌, ◌+◌, ◌-◌, ◌≤◌}
use Rattle.run_output.specs.Cells.{cells_in}
use Rattle.run_output.proofs.PartLemmas.{HasBegun}
use Rattle.run_output.proofs.rendering.render_records.Given as goal

abbrev pub invariant-records : goal.invariant-records
invariant-records l = record {
  after : l.from ≤ l.i;
  before : l.i ≤ l.to;
  number : l.number ≡ l.round.start + l.i;
  begun : HasBegun l.round.written (cells_in l.round) l.from l.to l.i l.part;
}

abbrev pub decreases-records : goal.decreases-records
decreases-records l = l.to - l.i
