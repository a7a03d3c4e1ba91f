use Rattle.lwaftr_engine.proofs.Words.{arith, refl, rules}
use Rattle.lwaftr_engine.proofs.Asking.{round_asked}
use Rattle.lwaftr_engine.proofs.Judging.{JudgedRound, are_fitting, has_outcomes}
use Rattle.lwaftr_engine.proofs.Steps.{none_is_due}
use Rattle.lwaftr_engine.proofs.shift.judge_round.Goals as goal

pub returns : goal.returns
returns g c =
    let s = c.args.shift.now in
    let seat = c.round.new.seat.known in
    let desk = c.round.new.desk.known in
    let areas = c.round.ensures.areas.1 in
    let judged : JudgedRound = record {
      plan = s.areas.plan;
      entries = c.args.items.now;
      start = c.args.start;
      end = c.args.end;
      points = desk.points;
      before = s.seat.known;
      after = seat;
      all = c.round.new.crew.outcomes;
      round = c.round.ensures.round;
      same_plan = c.requires.duty.seat_areas.same_plan;
      counted = c.requires.count;
      versions = c.round.ensures.versions;
      there = rw areas.same_plan at c.round.ensures.desk.there;
    } in
    record {
      duty = record {
        areas = refl;
        duty = search rules;
        adds = search rules;
        few = omega arith;
        up_to_date = none_is_due s.areas.plan seat desk areas.same_plan (search rules) c.round.ensures.settled;
      };
      drawn = c.round.ensures.round.many;
      reads = round_asked c.args.items.now c.args.start c.args.end s.seat.known seat c.round.new.crew.outcomes c.round.ensures.round c.requires.count;
      settled = c.round.ensures.settled;
      outcomes = has_outcomes judged;
      fitting = are_fitting judged (record { fits = c.access.ensures.fits; room = c.access.ensures.room }) c.requires.compiled;
      versions = c.round.ensures.versions;
    }
