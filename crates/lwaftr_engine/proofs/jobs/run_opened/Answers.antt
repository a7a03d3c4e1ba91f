use Rattle.lwaftr_engine.proofs.Words.{◌∙◌, ap, setup_of, spot, ended_status, world, Bool}
use Rattle.lwaftr_engine.proofs.JobLemmas.{ended_place, has_history, opened_leaves}
use Rattle.lwaftr_engine.proofs.jobs.run_opened.Goals as goal

pub returns-clause-left : goal.returns-clause-left
returns-clause-left g c =
    let i = g.I.Reading in
    let o = g.O.Writing in
    let s = g.S.Sink in
    let r = g.C.CaptureReader in
    let first = spot (r.stands c.args.reader.now) (r.left c.args.reader.now) (r.at c.args.reader.now) in
    let ended = c.run_capture-ended in
    let before = world (i.readable c.args.files.now.reading) (o.written c.args.files.now.writing) (s.out c.args.out.now) (s.faults c.args.out.now) in
    let now = world (i.readable ended.new.files.reading) (o.written ended.new.files.writing) (s.out ended.new.out) (s.faults ended.new.out) in
    opened_leaves (setup_of c.args.task) c.args.plan first ended.result c.ended_status.result before now ended.new.history
    (c.ended_status.ensures ∙ ap (λ (refused : Bool). ended_status ended.result refused) c.has_refused-refused.ensures) c.requires.opened ended.ensures.left

pub returns-clause-failed_read : goal.returns-clause-failed_read
returns-clause-failed_read g c =
    let i = g.I.Reading in
    let ended = c.run_capture-ended in
    rw c.ended_status.ensures (ended_place (setup_of c.args.task).run.input ended.result c.has_refused-refused.result
    (i.readable c.args.files.now.reading) (i.readable ended.new.files.reading) ended.ensures.reads)

pub returns-clause-has_history : goal.returns-clause-has_history
returns-clause-has_history g c =
    let i = g.I.Reading in
    let o = g.O.Writing in
    let s = g.S.Sink in
    let ended = c.run_capture-ended in
    rw c.ended_status.ensures (has_history (setup_of c.args.task).run.input ended.result c.has_refused-refused.result (i.readable c.args.files.now.reading)
    (i.readable ended.new.files.reading) (s.out c.args.out.now) (s.out ended.new.out) ended.new.history ended.ensures.history ended.ensures.in_records
    ended.ensures.reads)
