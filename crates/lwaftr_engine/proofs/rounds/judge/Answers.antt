use Rattle.lwaftr_engine.proofs.Words.{refl, rules}
use Rattle.lwaftr_engine.proofs.Adding.{stays_so}
use Rattle.lwaftr_engine.proofs.rounds.judge.Goals as goal

pub returns-clause-well : goal.returns-clause-well
returns-clause-well g c =
    let duty = c.judge_round.ensures.duty in
    let items = c.in_ok-items in
    let printed = c.in_ok-printed.ensures in
    record {
      judged = record {
        news = duty.adds.news;
        entries = items.items;
        outcomes = c.judge_round.new.shift.crew.outcomes;
        numbered = c.requires.can.in_hand.numbered;
        staged = rw (c.take_back.ensures) (record {
          entries = items.ensures.entries;
          stands = items.ensures.stands;
          count = items.ensures.count;
          form = items.ensures.form;
        });
        outcomes_count = c.judge_round.ensures.fitting.count;
        versions = c.judge_round.ensures.versions;
        reads = c.judge_round.ensures.reads;
        rate = c.requires.can.ready.bounded.rate;
        rendered = rw (← c.outcomes.ensures) (record { rendered = c.in_ok-render_round.ensures.rendered; asked = c.in_ok-render_round.ensures.asked });
        new_lines = record {
          points_are = duty.adds.points;
          forward = printed.from;
          lines_are = λ later. rw (c.as_slice.ensures, c.points.ensures.points, c.clear.ensures.bytes) at (printed.lines later);
          none_due = rw c.points.ensures.points at printed.none_left;
        };
        have = c.judge_round.ensures.outcomes;
      };
      after = record { bounded = search rules; drawn = c.judge_round.ensures.drawn; settled = c.judge_round.ensures.settled };
      number = refl;
    }

pub returns-in_err-items-clause-duty : goal.returns-in_err-items-clause-duty
returns-in_err-items-clause-duty g c = stays_so c.requires.can
