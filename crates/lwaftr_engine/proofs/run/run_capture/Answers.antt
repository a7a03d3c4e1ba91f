use Rattle.lwaftr_engine.proofs.Words.{Areas, Ending, KeepsRest, Readable, Spot, World, WrittenFiles, ap, halves, logs_front, logs_others, outputs_of, opening_steps}
use Rattle.lwaftr_engine.proofs.Words.{refl, setup_of, spot, state_of, stop_by, world, ◌∙◌}
use Rattle.lwaftr_engine.proofs.Capturing.{AtEnd, at_end, captured, ended_err, ends, finish_broken, is_failed, none_done, one_fails_as, one_rises, opened_run, opening_broken}
use Rattle.lwaftr_engine.proofs.Capturing.{rounds_broken}
use Rattle.lwaftr_engine.proofs.Exits.{fails_as, handed}
use Rattle.lwaftr_engine.proofs.ReadLemmas.{rest_after, rest_before, rest_written}
use Rattle.lwaftr_engine.proofs.EndLemmas.{points_at_end}
use Rattle.lwaftr_engine.proofs.SummaryLemmas.{summed_up}
use Rattle.lwaftr_engine.proofs.Writing.{front_of_err}
use Rattle.lwaftr_engine.proofs.run.run_capture.Given.{Over}
use Rattle.lwaftr_engine.proofs.run.run_capture.Goals as goal
use Rattle.lwaftr_engine.proofs.run.run_capture.Goals.{After-finish}

abbrev place : (g : Over) → g.row.C.Denot → Spot
place g r = spot (g.C.CaptureReader.stands r) (g.C.CaptureReader.left r) (g.C.CaptureReader.at r)

abbrev readable : (g : Over) → g.row.I.Denot → Readable
readable g files = g.I.Reading.readable files

abbrev written : (g : Over) → g.row.O.Denot → WrittenFiles
written g files = g.O.Writing.written files

abbrev there : (g : Over) → g.row.I.Denot → g.row.O.Denot → g.row.S.Denot → World
there g reading writing out = world (readable g reading) (written g writing) (g.S.Sink.out out) (g.S.Sink.faults out)

-- the records have ended, and what is left is written or not
abbrev end : (g : Over) → After-finish g → AtEnd
end g c =
    let reader = c.run_records-taken.new.reader in
    let router = c.run_records-taken.new.router in
    let read = c.run_records-taken.new.files in
    let taken = c.in_ok-ending.ensures in
    let closed = c.end_shift-closed.ensures router.progress in
    let run = opened_run c.run_laws.ensures (setup_of c.args.task) c.requires.errors c.args.plan (place g c.args.reader.now)
    (there g c.args.files.now.reading c.args.files.now.writing c.args.out.now) (written g c.open_outputs.new.files) c.in_ok-open_outputs.ensures.log.held in
    at_end (captured run (state_of router) (ap (λ (w : Areas). w.plan) taken.areas ∙ c.in_ok-router.ensures.plan) c.end_shift-closed.result closed
    (there g read.reading c.finish.new.files c.finish.new.out)) (place g reader) (λ bytes number. c.some_left.ensures reader bytes number)
    c.in_ok-ending.ending (written g read.writing) taken.reads.lost taken.after.drawn
    (points_at_end c.run_laws.ensures.points closed taken.after taken.duty) taken.went

-- whether it is written or not, other names are kept, and which reads failed is known
rest : (g : Over) (c : After-finish g) → KeepsRest (setup_of c.args.task).run
    (halves (readable g c.args.files.now.reading) (written g c.args.files.now.writing))
    (halves (readable g c.run_records-taken.new.files.reading) (written g c.finish.new.files))
rest g c =
    let x = setup_of c.args.task in
    let r = readable g c.args.files.now.reading in
    let w = written g c.args.files.now.writing in
    let m = written g c.open_outputs.new.files in
    let b = written g c.finish.new.files in
    let q = readable g c.run_records-taken.new.files.reading in
    let e = written g c.run_records-taken.new.files.writing in
    rest_after x.run r w m (halves q b) (logs_others (outputs_of x.run) c.open_outputs.result (opening_steps x.run x.written) w m c.open_outputs.ensures.log)
    (rest_before x.run (halves r m) q e b c.in_ok-ending.ensures.rest c.finish.ensures.others)

pub returns-clause-left : goal.returns-clause-left
returns-clause-left g c =
    let closed = c.end_shift-closed.ensures c.run_records-taken.new.router.progress in
    ends (end g (goal.at.returns-clause-left g c).After-finish) (rw (c.points.ensures.points ∙ closed.points) at c.in_ok-finish.ensures.finished)

pub returns-clause-history : goal.returns-clause-history
returns-clause-history g c =
    let router = c.run_records-taken.new.router in
    let after = c.in_ok-ending.ensures.after in
    let closed = c.end_shift-closed.ensures router.progress in
    summed_up router.progress c.points.result.now _ _ _ _ closed.history closed.drawn after.drawn after.bounded.totals c.points.ensures.points
    c.in_ok-finish.ensures.summary

pub returns-in_err-open_outputs-clause-rest : goal.returns-in_err-open_outputs-clause-rest
returns-in_err-open_outputs-clause-rest g c =
    let x = setup_of c.args.task in
    let w = written g c.args.files.now.writing in
    let m = written g c.open_outputs.new.files in
    rest_written x.run (readable g c.args.files.now.reading) w m
    (logs_others (outputs_of x.run) c.open_outputs.result (opening_steps x.run x.written) w m c.open_outputs.ensures.log)

pub returns-in_err-ending-clause-rest : goal.returns-in_err-ending-clause-rest
returns-in_err-ending-clause-rest g c =
    let x = setup_of c.args.task in
    let w = written g c.args.files.now.writing in
    let m = written g c.open_outputs.new.files in
    let files = c.run_records-taken.new.files in
    rest_after x.run (readable g c.args.files.now.reading) w m (halves (readable g files.reading) (written g files.writing))
    (logs_others (outputs_of x.run) c.open_outputs.result (opening_steps x.run x.written) w m c.open_outputs.ensures.log) c.in_err-ending.ensures.rest

pub returns-in_err-finish-clause-rest : goal.returns-in_err-finish-clause-rest
returns-in_err-finish-clause-rest g c = rest g (goal.at.returns-in_err-finish-clause-rest g c).After-finish

pub returns-clause-rest : goal.returns-clause-rest
returns-clause-rest g c = rest g (goal.at.returns-clause-rest g c).After-finish

pub returns-in_err-room-clause-left : goal.returns-in_err-room-clause-left
returns-in_err-room-clause-left g c =
    let r = c.from_residual-in_err-room in
    none_done (setup_of c.args.task) c.args.plan (place g c.args.reader.now) r.result
    (there g c.args.files.now.reading c.args.files.now.writing c.args.out.now) c.args.history.now (handed r.result r.ensures.1) c.requires.none

pub returns-in_err-open_outputs-clause-writing : goal.returns-in_err-open_outputs-clause-writing
returns-in_err-open_outputs-clause-writing g c =
    let r = c.from_residual-in_err-open_outputs in
    rw (handed r.result r.ensures.1) (one_rises c.in_err-open_outputs.field-0.0 _ _ _
    (fails_as Unit Ending _ _ c.in_err-open_outputs.field-0.0 c.in_err-open_outputs.ensures.log.1.spoiled))

pub returns-in_err-ending-clause-writing : goal.returns-in_err-ending-clause-writing
returns-in_err-ending-clause-writing g c =
    let r = c.from_residual-in_err-ending in
    rw (handed r.result r.ensures.1) (one_rises c.in_err-ending.field-0.0 _ _ _
    (rw c.in_ok-open_outputs.ensures.log.spoiled at c.in_err-ending.ensures.spoiled))

pub returns-in_err-finish-clause-writing : goal.returns-in_err-finish-clause-writing
returns-in_err-finish-clause-writing g c =
    let r = c.from_residual-in_err-finish in
    rw (handed r.result r.ensures.1) (one_fails_as Unit Ending c.in_err-finish.field-0.0 _ _ _ _
    (rw (c.in_ok-ending.ensures.spoiled ∙ c.in_ok-open_outputs.ensures.log.spoiled) at c.in_err-finish.ensures.writing))

pub returns-in_err-open_outputs-clause-left : goal.returns-in_err-open_outputs-clause-left
returns-in_err-open_outputs-clause-left g c =
    let x = setup_of c.args.task in
    let reading = c.args.files.now.reading in
    let before = there g reading c.args.files.now.writing c.args.out.now in
    let now = there g reading c.open_outputs.new.files c.args.out.now in
    let first = place g c.args.reader.now in
    let why = c.in_err-open_outputs.field-0.0 in
    let log = c.in_err-open_outputs.ensures.log in
    let r = c.from_residual-in_err-open_outputs in
    ended_err x c.args.plan first r.result why before now c.args.history.now (handed r.result r.ensures.1) c.requires.none
    (opening_broken c.run_laws.ensures x c.args.plan c.len.ensures.rules c.requires.errors first
    (λ bytes number. c.some_left.ensures c.args.reader.now bytes number)
    (stop_by why before now) (is_failed _ _ why log.1.spoiled, refl) refl
    (front_of_err x.run (opening_steps x.run x.written) why (written g c.args.files.now.writing) (written g c.open_outputs.new.files) log))

pub returns-in_err-ending-clause-left : goal.returns-in_err-ending-clause-left
returns-in_err-ending-clause-left g c =
    let x = setup_of c.args.task in
    let files = c.run_records-taken.new.files in
    let before = there g c.args.files.now.reading c.args.files.now.writing c.args.out.now in
    let now = there g files.reading files.writing c.args.out.now in
    let first = place g c.args.reader.now in
    let router = c.run_records-taken.new.router in
    let log = c.in_ok-open_outputs.ensures.log in
    let why = c.in_err-ending.field-0.0 in
    let broke = c.in_err-ending.ensures in
    let r = c.from_residual-in_err-ending in
    let run = opened_run c.run_laws.ensures x c.requires.errors c.args.plan first before (written g c.open_outputs.new.files) log.held in
    ended_err x c.args.plan first r.result why before now c.args.history.now (handed r.result r.ensures.1) c.requires.none
    (rounds_broken (captured run (state_of router) (ap (λ (w : Areas). w.plan) broke.areas ∙ c.in_ok-router.ensures.plan) c.end_shift-closed.result
    (c.end_shift-closed.ensures router.progress) now) why (rw log.spoiled at broke.spoiled, refl) broke.broken)

pub returns-in_err-finish-clause-left : goal.returns-in_err-finish-clause-left
returns-in_err-finish-clause-left g c =
    let why = c.in_err-finish.field-0.0 in
    let r = c.from_residual-in_err-finish in
    let closed = c.end_shift-closed.ensures c.run_records-taken.new.router.progress in
    ended_err (setup_of c.args.task) c.args.plan (place g c.args.reader.now) r.result why
    (there g c.args.files.now.reading c.args.files.now.writing c.args.out.now)
    (there g c.run_records-taken.new.files.reading c.finish.new.files c.finish.new.out) c.args.history.now (handed r.result r.ensures.1) c.requires.none
    (finish_broken (end g (goal.at.returns-in_err-finish-clause-left g c).After-finish) why
    (rw (c.points.ensures.points ∙ closed.points, c.in_ok-ending.ensures.spoiled ∙ c.in_ok-open_outputs.ensures.log.spoiled) at c.in_err-finish.ensures.cut))
