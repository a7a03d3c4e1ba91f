use Rattle.lwaftr_engine.proofs.Words.{◌-◌, ◌^◌, halves, setup_of, spot}
use Rattle.lwaftr_engine.specs.Beside.{standing}
use Rattle.lwaftr_engine.proofs.Besides.{IsGoing}
use Rattle.lwaftr_engine.proofs.rounds.run_records.Given as goal

abbrev pub invariant-rounds : goal.invariant-rounds
invariant-rounds g l =
    let i = g.I.Reading in
    let o = g.O.Writing in
    let r = g.C.CaptureReader in
    IsGoing (setup_of l.task) (λ v. spot (r.stands v) (r.left v) (r.at v)) (λ v n. r.ready v n)
    (spot (r.stands l.fn.reader) (r.left l.fn.reader) (r.at l.fn.reader))
    (halves (i.readable l.fn.files.reading) (o.written l.fn.files.writing)) l.fn.router
    (standing (halves (i.readable l.files.reading) (o.written l.files.writing)) l.reader l.under_way.round l.under_way.pending) l.router

abbrev pub decreases-rounds : goal.decreases-rounds
decreases-rounds g l = 2 ^ 31 - l.router.progress.number
