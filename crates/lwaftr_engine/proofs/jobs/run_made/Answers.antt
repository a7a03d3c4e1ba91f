use Rattle.lwaftr_engine.proofs.Words.{IsInHead, refl, world, read_well}
use Rattle.lwaftr_engine.proofs.OpenLemmas.{opened_first}
use Rattle.lwaftr_engine.proofs.ReadLemmas.{rest_unopened}
use Rattle.lwaftr_engine.proofs.UnopenedLemmas.{by_name, is_short, unopened_leaves, history_by_error}
use Rattle.lwaftr_engine.proofs.jobs.run_made.Goals as goal

pub run_opened-requires-clause-opened : goal.run_opened-requires-clause-opened
run_opened-requires-clause-opened g c κs within =
    let opened = c.in-Ok.ensures in
    rw (opened.reads.held, c.form.ensures, c.written.ensures) (opened_first c.in-Ok.reader c.args.job.now.input (g.I.Reading.readable c.args.files.now.reading).held
    opened.fresh (rw c.as_str.ensures at opened.told))

pub returns-in-Err-clause-left : goal.returns-in-Err-clause-left
returns-in-Err-clause-left g c =
    let i = g.I.Reading in
    let w = g.O.Writing.written c.args.files.now.writing in
    let s = g.S.Sink in
    let run = c.args.job.now in
    let a = i.readable c.args.files.now.reading in
    let b = i.readable c.open.new.files in
    let before = world a w (s.out c.args.out.now) (s.faults c.args.out.now) in
    let now = world b w (s.out c.args.out.now) (s.faults c.args.out.now) in
    let error = c.in-Err.error in
    let name = c.as_str.result.now in
    let opened = c.in-Err.ensures in
    rw (c.unopened.ensures, c.requires.none) (unopened_leaves run c.args.made.plan c.args.made.slots error before now refl refl
    (is_short name (IsInHead a.held name) before now error refl opened.reads)
    (by_name run a.held error a.last b.last (rw c.as_str.ensures at opened.told) (rw c.as_str.ensures at opened.reads.last)))

pub returns-in-Ok-clause-left : goal.returns-in-Ok-clause-left
returns-in-Ok-clause-left g c =
    rw (← c.as_slice.ensures) (rw (← (read_well _ _ _ _ c.in-Ok.ensures.reads)) c.run_opened.ensures.left)

pub returns-in-Err-clause-rest : goal.returns-in-Err-clause-rest
returns-in-Err-clause-rest g c =
    let a = g.I.Reading.readable c.args.files.now.reading in
    let name = c.as_str.result.now in
    rest_unopened c.args.job.now name c.as_str.ensures (IsInHead a.held name) a (g.I.Reading.readable c.open.new.files)
    (g.O.Writing.written c.args.files.now.writing) c.in-Err.error c.in-Err.ensures.reads

pub returns-in-Ok-clause-rest : goal.returns-in-Ok-clause-rest
returns-in-Ok-clause-rest g c = rw (← (read_well _ _ _ _ c.in-Ok.ensures.reads)) c.run_opened.ensures.rest

pub returns-in-Err-clause-has_history : goal.returns-in-Err-clause-has_history
returns-in-Err-clause-has_history g c =
    rw (c.unopened.ensures, c.requires.none)
    (history_by_error c.args.job.now.input c.in-Err.error (g.I.Reading.readable c.open.new.files).last (g.S.Sink.out c.args.out.now) c.in-Err.ensures.refused)
