use Rattle.std.proofs.Common.{◌≡◌, ◌∙◌, ap, arith, length}
use Rattle.item_stage.proofs.MarkLemmas.{entries_length}
use Rattle.item_stage.proofs.stage.Stage.stage.Goals as goal

pub returns-clause-count : goal.returns-clause-count
returns-clause-count c =
    let lent : length c.records.result.now ≡ length c.take_room-room.new.self.records = ap length c.records.ensures in
    let kept : length c.take_room-room.new.self.records ≡ length c.args.round.now.records = ap length c.take_room-room.ensures.records in
    let count = c.in_ok-marks.ensures.count in
    ap length c.put_marks.ensures.entries
    ∙ (entries_length c.form-form.result c.take_room-room.new.self.records c.in_ok-marks.marks.slots (omega (arith, lent, count)) ∙ omega (arith, lent, kept, count))
