use Rattle.std.proofs.Common.{◌≡◌, ◌∷◌, ◌++◌, [], ap, arith, length, length-append}
use Rattle.capture_io.specs.Records as records
use Rattle.item_stage.proofs.StepLemmas.{entries_start, next_entries, next_rows, rows_start}
use Rattle.item_stage.proofs.stage.take_all.Goals as goal

pub records-init : goal.records-init
records-init c =
    let none = c.in_ok-restart.ensures.none in (
      omega arith,
      c.requires.headers,
      ap length none,
      omega (arith, c.in_ok-restart.ensures.room, c.len.ensures),
      entries_start c.args.form c.args.records.now c.args.rows.now c.args.start c.restart.new.self.slots none,
      rows_start c.args.form c.args.records.now c.args.rows.now c.args.start,
    )

pub records-preserved : goal.records-preserved
records-preserved c =
    let at = c.records in
    let k = c.in_ok-mark_one.ensures.marked in
    let now = c.mark_one.new.marks.slots in
    let size : length now ≡ length (at.marks.slots ++ k.slot ∷ []) = ap length k.slots in (
      omega (arith, c.records-test.true, c.len-in-records.ensures),
      c.in_ok-mark_one.ensures.headers,
      omega (arith, size, length-append at.marks.slots (k.slot ∷ []), at.invariant.2),
      omega (arith, at.invariant.3, c.in_ok-mark_one.ensures.room),
      next_entries c.args.form c.args.records.now at.rows c.mark_one.new.rows at.marks.slots now k.slot c.args.start at.index c.number_behind-number.result
          (records.seen c.get.result) c.get.ensures k.turn c.number_behind-number.ensures _ at.invariant.2 k.slots at.invariant.4,
      next_rows c.args.form c.args.records.now at.rows c.mark_one.new.rows at.marks.slots now k.slot c.args.start at.index c.number_behind-number.result
          (records.seen c.get.result) c.get.ensures k.turn c.number_behind-number.ensures _ at.invariant.5,
    )
