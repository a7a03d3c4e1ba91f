use Rattle.worker_gate.proofs.Trying.{holds_on}
use Rattle.worker_gate.proofs.claims.take_run.Goals as goal

pub returns-in-Taken-clause-goes_on_holding : goal.returns-in-Taken-clause-goes_on_holding
returns-in-Taken-clause-goes_on_holding c = λ version settings h.
    holds_on c.args.areas.now version settings c.args.seat.now c.draw_run.new.seat c.draw_run.ensures.areas c.draw_run.ensures.holding h

pub returns-in-Lost-clause-goes_on_holding : goal.returns-in-Lost-clause-goes_on_holding
returns-in-Lost-clause-goes_on_holding c = λ version settings h.
    holds_on c.args.areas.now version settings c.args.seat.now c.draw_run.new.seat c.draw_run.ensures.areas c.draw_run.ensures.holding h

pub returns-in-Moved-clause-goes_on_holding : goal.returns-in-Moved-clause-goes_on_holding
returns-in-Moved-clause-goes_on_holding c = λ version settings h.
    holds_on c.args.areas.now version settings c.args.seat.now c.draw_run.new.seat c.draw_run.ensures.areas c.draw_run.ensures.holding h

pub returns-in-End-clause-goes_on_holding : goal.returns-in-End-clause-goes_on_holding
returns-in-End-clause-goes_on_holding c = λ version settings h.
    holds_on c.args.areas.now version settings c.args.seat.now c.draw_run.new.seat c.draw_run.ensures.areas c.draw_run.ensures.holding h

pub returns-in-Hold-clause-goes_on_holding : goal.returns-in-Hold-clause-goes_on_holding
returns-in-Hold-clause-goes_on_holding c = λ version settings h.
    holds_on c.args.areas.now version settings c.args.seat.now c.draw_run.new.seat c.draw_run.ensures.areas c.draw_run.ensures.holding h
