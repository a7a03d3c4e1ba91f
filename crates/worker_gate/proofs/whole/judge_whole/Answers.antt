use Rattle.std.proofs.Common.{arith}
use Rattle.worker_gate.proofs.whole.judge_whole.Goals as goal

pub invariant_of-crew : goal.invariant_of-crew
invariant_of-crew g c =
    let i = c.crew.invariant in
    let r = c.judge_sheet.ensures in (
      record {
        some_one = omega (arith, i.0.some_one, r.sheets.0);
        few = omega (arith, i.0.few, r.sheets.0);
        rooms = r.rooms c.crew.inside.room i.0.rooms;
      },
      omega (arith, i.1, r.sheets.0, r.sheets.1),
      i.2,
      omega (arith, i.3, r.sheets.0),
      omega (arith, i.4, r.room),
      omega (arith, r.places.1, c.requires.small),
      r.places.0,
    )
