use Rattle.lwaftr_engine.proofs.Words.{logs_others, logs_spoiled, outputs_of, setup_of, steps_of}
use Rattle.lwaftr_engine.proofs.Adding.{others_more, stays_so}
use Rattle.lwaftr_engine.proofs.Exits.{if_err}
use Rattle.lwaftr_engine.proofs.Writing.{both_of, cut_first, cut_left, cut_of}
use Rattle.lwaftr_engine.proofs.rounds.last_steps.Goals as goal

pub returns-in_err-put-clause-duty : goal.returns-in_err-put-clause-duty
returns-in_err-put-clause-duty g c = stays_so c.requires.can

pub returns-in_err-put-clause-begun : goal.returns-in_err-put-clause-begun
returns-in_err-put-clause-begun g c =
    let o = g.O.Writing in
    if_err _ c.from_residual.result
    (cut_first (setup_of c.args.task).run (steps_of c.args.under_way.now.pending) _ _ c.in_err-put.field-0.0 (o.written c.args.files.now)
    (o.written c.put.new.files) c.in_err-put.ensures.log)

pub returns-in_err-put-clause-others : goal.returns-in_err-put-clause-others
returns-in_err-put-clause-others g c = logs_others (outputs_of (setup_of c.args.task).run) _ _ _ _ c.put.ensures.log

pub returns-in_err-judge-clause-begun : goal.returns-in_err-judge-clause-begun
returns-in_err-judge-clause-begun g c =
    let o = g.O.Writing in
    if_err _ c.from_residual-in_err-judge.result
    (cut_left (setup_of c.args.task).run _ _ _ (o.written c.args.files.now).held (o.written c.put.new.files).held c.in_ok-put.ensures.log.held)

pub returns-in_err-judge-clause-others : goal.returns-in_err-judge-clause-others
returns-in_err-judge-clause-others g c = logs_others (outputs_of (setup_of c.args.task).run) _ _ _ _ c.put.ensures.log

pub returns-clause-wrote : goal.returns-clause-wrote
returns-clause-wrote g c =
    let o = g.O.Writing in
    both_of (setup_of c.args.task).run _ _ c.put-2.result (o.written c.args.files.now) (o.written c.put.new.files) (o.written c.put-2.new.files)
    c.in_ok-put.ensures.log.held c.put-2.ensures.log

pub returns-clause-begun : goal.returns-clause-begun
returns-clause-begun g c =
    let o = g.O.Writing in
    cut_of (setup_of c.args.task).run _ _ _ c.put-2.result (o.written c.args.files.now) (o.written c.put.new.files) (o.written c.put-2.new.files)
    c.in_ok-judge.ensures.well c.in_ok-put.ensures.log.held c.put-2.ensures.log

pub returns-clause-others : goal.returns-clause-others
returns-clause-others g c =
    let o = g.O.Writing in
    let names = outputs_of (setup_of c.args.task).run in
    others_more (setup_of c.args.task).run (o.written c.args.files.now).held (o.written c.put.new.files).held (o.written c.put-2.new.files).held
    (logs_others names _ _ _ _ c.put.ensures.log) (logs_others names _ _ _ _ c.put-2.ensures.log)
