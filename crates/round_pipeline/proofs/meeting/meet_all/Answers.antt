use Rattle.std.proofs.Common.{arith, length, ◌<◌}
use Rattle.round_pipeline.proofs.Meets.{judge_more, met_more, rest_more}
use Rattle.round_pipeline.proofs.meeting.meet_all.Goals as goal

pub lines-preserved : goal.lines-preserved
lines-preserved g c =
    let known = c.lines.invariant in
    let at = c.lines.at in
    let f1 : at < length c.lines.reads = c.lines-test.true in
    let f2 : at < length c.lines.seats = omega (arith, f1, c.lines.auto.reads, c.lines.auto.seats, c.requires.sizes.0) in
    let f3 : at < length c.lines.writes = omega (arith, f1, c.lines.auto.reads, c.lines.auto.writes, c.requires.sizes.1) in
    record {
      at = omega (arith, f1, c.lines.auto.reads);
      met = met_more c.args.reads.now c.lines.reads c.args.seats.now c.lines.seats c.args.writes.now c.lines.writes at
          c.index-reads-at.result c.meet.new.read c.index-seats-at.result c.index-writes-at.result c.meet.new.write f1 f2 f3 known.met known.reads known.seats known.writes
          c.meet.ensures;
      judges = judge_more c.args.seats.now c.lines.seats at c.index-seats-at.result c.meet.new.judge f2 known.judges known.seats;
      reads = rest_more c.args.reads.now c.lines.reads at c.meet.new.read known.reads;
      seats = rest_more c.args.seats.now c.lines.seats at _ known.seats;
      writes = rest_more c.args.writes.now c.lines.writes at c.meet.new.write known.writes;
    }
