use Rattle.std.proofs.Common.{rules, ◌≡◌, ◌≢◌, false, [], inl, inr, refl}
use Rattle.run_turns.proofs.sink.OutputsSinkTurnFault.put.Goals as goal

pub returns-then-turn-clause-puts : goal.returns-then-turn-clause-puts
returns-then-turn-clause-puts g c =
    (record { passed = _; judged = c.judge_turn.ensures.passed; seat = refl; put = inl (refl, refl) }, (refl, (refl, c.judge_turn.ensures.rate)))

pub returns-then-is_empty-clause-puts : goal.returns-then-is_empty-clause-puts
returns-then-is_empty-clause-puts g c =
    let none : c.judge_turn.new.turn.round.records ≡ [] = search rules in (
      record {
        passed = _;
        judged = c.judge_turn.ensures.passed;
        seat = refl;
        put = (c.if-turn.false, inl (none, record { files = refl; totals = refl }));
      },
      (refl, (refl, c.judge_turn.ensures.rate)),
    )

pub returns-in-Err-clause-puts : goal.returns-in-Err-clause-puts
returns-in-Err-clause-puts g c =
    let some : c.judge_turn.new.turn.round.records ≢ [] = search rules in (
      record {
        passed = _;
        judged = c.judge_turn.ensures.passed;
        seat = refl;
        put = inr (c.if-turn.false, (some, (c.count_part.ensures, rw c.deref.ensures at c.in-Err.ensures.log)));
      },
      (refl, (refl, c.judge_turn.ensures.rate)),
    )

pub returns-clause-puts : goal.returns-clause-puts
returns-clause-puts g c =
    let some : c.judge_turn.new.turn.round.records ≢ [] = search rules in (
      record {
        passed = _;
        judged = c.judge_turn.ensures.passed;
        seat = refl;
        put = (c.if-turn.false, inr (some, record { log = rw c.deref.ensures at c.in_default.ensures.log; totals = c.count_part.ensures }));
      },
      (refl, (refl, c.judge_turn.ensures.rate)),
    )
