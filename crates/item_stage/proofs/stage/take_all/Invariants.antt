use Rattle.std.proofs.Common.{◌≡◌, ◌+◌, ◌-◌, ◌≤◌, ◌++◌, drop, length}
use Rattle.item_stage.specs.Heads.{HaveHeaders}
use Rattle.item_stage.specs.Marks.{entries_by}
use Rattle.item_stage.specs.Turns.{entries_from, rows_after}
use Rattle.item_stage.proofs.stage.take_all.Given as goal

abbrev pub decreases-records : goal.decreases-records
decreases-records l = length l.records - l.index

abbrev pub invariant-records : goal.invariant-records
invariant-records l =
    (l.index ≤ length l.records)
    × HaveHeaders l.rows
    × (length l.marks.slots ≡ l.index)
    × (length l.records ≤ l.marks.room)
    × (entries_by l.form l.records l.marks.slots ++ entries_from l.form l.rows (l.start + l.index) (drop l.index l.records)
    ≡ entries_from l.form l.initial.rows l.start l.records)
    × (rows_after l.form l.rows (l.start + l.index) (drop l.index l.records) ≡ rows_after l.form l.initial.rows l.start l.records)
