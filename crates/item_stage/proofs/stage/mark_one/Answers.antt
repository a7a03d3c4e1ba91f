use Rattle.std.proofs.Common.{None, refl}
use Rattle.capture_io.specs.Records as records
use Rattle.item_stage.proofs.LookLemmas.{looked_at}
use Rattle.item_stage.proofs.stage.mark_one.Goals as goal

pub returns-then-needs_no_lane-clause-marked : goal.returns-then-needs_no_lane-clause-marked
returns-then-needs_no_lane-clause-marked c =
    record {
      slot = None;
      slots = c.push_alone.ensures.slots;
      turn =
          looked_at c.args.form c.args.rows.now c.args.number (records.seen c.args.view) None refl (c.needs_no_lane.ensures c.if-needs_no_lane.true);
    }
