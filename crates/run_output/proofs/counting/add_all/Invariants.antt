use Rattle.std.proofs.Common.{ℕ, ◌+◌, ◌-◌, ◌^◌, ◌≤◌, List, length}
use Rattle.capture_io.specs.declared.written.Written.{Written}
use Rattle.run_output.specs.Cells.{AreCounted, ArePartsUnless, Cell}
use Rattle.run_output.specs.Counting.{IsWithin}
use Rattle.run_output.proofs.counting.add_all.Given as goal

abbrev pub invariant-parts : goal.invariant-parts
invariant-parts l = record {
  within : l.i ≤ length l.parts;
  counted : (w : Written) (size number : ℕ) (cs : List Cell) → ArePartsUnless w size cs l.parts → IsWithin l.initial.totals number →
      number + length cs ≤ 2 ^ 31 → AreCounted size cs number l.i l.initial.totals l.totals;
}

abbrev pub decreases-parts : goal.decreases-parts
decreases-parts l = length l.parts - l.i
