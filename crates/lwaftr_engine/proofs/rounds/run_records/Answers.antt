use Rattle.lwaftr_engine.proofs.Words.{Ending, EndsInRecords, Option, ReadsOf, halves, inl, is_cut, refl, setup_of, spot, subst, ◌∙◌}
use Rattle.lwaftr_engine.specs.Beside.{standing}
use Rattle.lwaftr_engine.proofs.UnderwayLemmas.{ends_well, last_broken, not_begun}
use Rattle.lwaftr_engine.proofs.Adding.{others_same}
use Rattle.lwaftr_engine.proofs.Besides.{at_first, break_off, fails, go, goes, still_kept, under_way}
use Rattle.lwaftr_engine.proofs.Exits.{handed, if_err}
use Rattle.lwaftr_engine.proofs.rounds.run_records.Goals as goal

pub returns-in_err-round-clause-broken : goal.returns-in_err-round-clause-broken
returns-in_err-round-clause-broken g c =
    let i = g.I.Reading in
    let r = g.C.CaptureReader in
    let first = spot (r.stands c.args.reader.now) (r.left c.args.reader.now) (r.at c.args.reader.now) in
    if_err _ c.from_residual.result
    (not_begun (setup_of c.args.task) c.requires.start first (λ bytes number. c.some_left.ensures c.args.reader.now bytes number)
    (i.readable c.args.files.now.reading) (i.readable c.read_next.new.files) (g.O.Writing.written c.args.files.now.writing).held c.in_err-round.ensures.lost)

pub returns-in_err-round-clause-rest : goal.returns-in_err-round-clause-rest
returns-in_err-round-clause-rest g c =
    let w = (g.O.Writing.written c.args.files.now.writing).held in
    let read = c.in_err-round.ensures in
    record { inputs = read.held; others = others_same (setup_of c.args.task).run w w refl; capture_read = inl (read.lost, read.last) }

pub rounds-init : goal.rounds-init
rounds-init g c =
    let i = g.I.Reading in
    let o = g.O.Writing in
    let r = g.C.CaptureReader in
    let x = setup_of c.args.task in
    let read = c.in_ok-round.ensures in
    let first = spot (r.stands c.args.reader.now) (r.left c.args.reader.now) (r.at c.args.reader.now) in
    let start = standing (halves (i.readable c.read_next.new.files) (o.written c.args.files.now.writing)) c.read_next.new.reader c.in_ok-round.round c.args.room.pending in
    let known = at_first x (λ v. spot (r.stands v) (r.left v) (r.at v)) (λ v n. r.ready v n) first
    (halves (i.readable c.args.files.now.reading) (o.written c.args.files.now.writing)) c.args.router.now
    c.requires.start start c.requires.nothing refl read.read read.ready read.reads in
    let gone = c.in_ok-free.ensures in
    go x c.run_laws.ensures gone.exchanges _ _ known gone.ended gone.judged

pub returns-in_err-free : goal.returns-in_err-free
returns-in_err-free g c =
    let i = g.I.Reading in
    let o = g.O.Writing in
    let r = g.C.CaptureReader in
    let x = setup_of c.args.task in
    let read = c.in_ok-round.ensures in
    let first = spot (r.stands c.args.reader.now) (r.left c.args.reader.now) (r.at c.args.reader.now) in
    let start = standing (halves (i.readable c.read_next.new.files) (o.written c.args.files.now.writing)) c.read_next.new.reader c.in_ok-round.round c.args.room.pending in
    let known = at_first x (λ v. spot (r.stands v) (r.left v) (r.at v)) (λ v n. r.ready v n) first
    (halves (i.readable c.args.files.now.reading) (o.written c.args.files.now.writing)) c.args.router.now
    c.requires.start start c.requires.nothing refl read.read read.ready read.reads in
    let stopped = c.in_err-free.ensures in
    let broke = break_off x c.run_laws.ensures stopped.exchanges
    (halves (i.readable c.rounds_beside.new.files.reading) (o.written c.rounds_beside.new.files.writing))
    c.rounds_beside.new.reader c.in_err-free.field-0.0 c.rounds_beside.new.router known
    (λ v bytes number. c.some_left.ensures v bytes number) stopped.ended stopped.judged in
    rw (handed c.from_residual-in_err-free.result c.from_residual-in_err-free.ensures.1) (record {
      went = tt;
      after = tt;
      reads = tt;
      in_records = tt;
      broken = broke.broken;
      rest = broke.rest;
      areas = broke.areas;
      duty = broke.duty;
      spoiled = broke.spoiled;
    })

pub returns-in_err-next : goal.returns-in_err-next
returns-in_err-next g c =
    let did = c.in_err-next.ensures in
    let broke = fails (setup_of c.args.task) c.run_laws.ensures c.rounds.invariant c.in_default.is c.step.new.router did.duty
    (halves (g.I.Reading.readable c.step.new.files.reading) (g.O.Writing.written c.step.new.files.writing)) c.step.new.reader c.in_err-next.field-0.0 (λ v bytes number. c.some_left.ensures v bytes number) did.outside in
    rw (handed c.from_residual-in_err-next.result c.from_residual-in_err-next.ensures.1) (record {
      went = tt;
      after = tt;
      reads = tt;
      in_records = tt;
      broken = broke.broken;
      rest = broke.rest;
      areas = broke.areas;
      duty = broke.duty;
      spoiled = broke.spoiled;
    })

pub returns-in_err-last_steps-clause-broken : goal.returns-in_err-last_steps-clause-broken
returns-in_err-last_steps-clause-broken g c =
    let known = c.rounds.invariant in
    let last = c.in_err-last_steps.ensures in
    if_err _ c.from_residual-in_err-last_steps.result
    (last_broken (under_way (setup_of c.args.task) c.run_laws.ensures known) c.last_steps.new.router c.last_steps.new.made last.duty
    (g.O.Writing.written c.last_steps.new.files).held (λ bytes number. c.some_left.ensures c.rounds.reader bytes number) known.reads.lost last.begun)

pub returns-in_err-last_steps-clause-rest : goal.returns-in_err-last_steps-clause-rest
returns-in_err-last_steps-clause-rest g c =
    let last = c.in_err-last_steps.ensures in
    still_kept (setup_of c.args.task) c.run_laws.ensures c.rounds.invariant (g.O.Writing.written c.last_steps.new.files) last.others

pub returns-in-Some : goal.returns-in-Some
returns-in-Some g c =
    let i = g.I.Reading in
    let x = setup_of c.args.task in
    let b = g.O.Writing.written c.last_steps.new.files in
    let known = c.rounds.invariant in
    let last = c.in_ok-last_steps.ensures in
    let way = under_way x c.run_laws.ensures known in
    let R : Option Ending → Type 0 = λ e. ReadsOf (is_cut e) x.run.input (i.readable c.args.files.now.reading) (i.readable c.rounds.files.reading) in
    let E : Option Ending → Type 0 = λ e. EndsInRecords e in
    record {
      went = ends_well way c.last_steps.new.router c.last_steps.new.made last.duty b.held last.well c.in-Some.is last.wrote;
      after = last.well.after;
      reads = subst R c.in-Some.is known.reads;
      in_records = subst E c.in-Some.is known.in_hand.in_records;
      broken = tt;
      rest = still_kept x c.run_laws.ensures known b last.others;
      areas = last.duty.areas ∙ known.same_areas;
      duty = last.duty.duty;
      spoiled = last.spoiled ∙ known.spoiled;
    }

pub rounds-preserved : goal.rounds-preserved
rounds-preserved g c =
    let done = c.in_ok-next.ensures in
    rw (c.replace-records.ensures.after, c.swap.ensures.x_after)
    (goes (setup_of c.args.task) c.run_laws.ensures c.rounds.invariant c.in_default.is done.duty done.well done.outside)

pub rounds-preserved-in_ok-next : goal.rounds-preserved-in_ok-next
rounds-preserved-in_ok-next g c =
    let done = c.in_ok-next.ensures in
    rw (c.replace-records.ensures.after, c.swap.ensures.x_after)
    (goes (setup_of c.args.task) c.run_laws.ensures c.rounds.invariant c.in_default.is done.duty done.well done.outside)
