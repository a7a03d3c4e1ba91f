use Rattle.lwaftr_engine.proofs.Words.{Round, halves, inl, is_cut, logs_others, outputs_of, refl, rules, setup_of, spot, steps_of}
use Rattle.lwaftr_engine.proofs.Exits.{fails_as, handed, not_ok}
use Rattle.lwaftr_engine.proofs.Moving.{told_all}
use Rattle.lwaftr_engine.proofs.ReadLemmas.{rest_read, rest_written}
use Rattle.lwaftr_engine.proofs.Writing.{front_of_err, fronts_of}
use Rattle.lwaftr_engine.proofs.UnderwayLemmas.{read_past}
use Rattle.lwaftr_engine.proofs.rounds.put_and_read.Goals as goal

pub returns-in_err-put : goal.returns-in_err-put
returns-in_err-put g c =
    let run = (setup_of c.args.task).run in
    let r = g.I.Reading.readable c.args.files.now.reading in
    let w = g.O.Writing.written c.args.files.now.writing in
    let v = g.O.Writing.written c.put.new.files in
    let log = c.in_err-put.ensures.log in
    rw (handed c.from_residual.result c.from_residual.ensures.1) (record {
      well = tt;
      part = front_of_err run (steps_of c.args.pending.now) c.in_err-put.field-0.0 w v log;
      past = told_all r.held _ (λ i. inl refl);
      rest = rest_written run r w v (logs_others (outputs_of run) c.put.result (steps_of c.args.pending.now) w v c.put.ensures.log);
      spoiled = fails_as Unit Round w.spoiled v.spoiled c.in_err-put.field-0.0 log.1.spoiled;
    })

pub returns-in_err-round : goal.returns-in_err-round
returns-in_err-round g c =
    let run = (setup_of c.args.task).run in
    let w = g.O.Writing.written c.args.files.now.writing in
    let v = g.O.Writing.written c.put.new.files in
    let read = c.in_err-round.ensures in
    record {
      well = not_ok _ c.from_residual-in_err-round.result c.from_residual-in_err-round.ensures.0;
      part = fronts_of run (steps_of c.args.pending.now) w v c.in_ok-put.ensures.log;
      past = told_all (g.I.Reading.readable c.args.files.now.reading).held _ (λ i. inl read.lost);
      rest = record {
        inputs = read.held;
        others = logs_others (outputs_of run) c.put.result (steps_of c.args.pending.now) w v c.put.ensures.log;
        capture_read = inl (read.lost, read.last);
      };
      spoiled = search rules;
    }

pub returns : goal.returns
returns g c =
    let r = g.C.CaptureReader in
    let x = setup_of c.args.task in
    let w = g.O.Writing.written c.args.files.now.writing in
    let v = g.O.Writing.written c.put.new.files in
    let a = g.I.Reading.readable c.args.files.now.reading in
    let b = g.I.Reading.readable c.read_next.new.files in
    let here = spot (r.stands c.args.reader.now) (r.left c.args.reader.now) (r.at c.args.reader.now) in
    let there = spot (r.stands c.read_next.new.reader) (r.left c.read_next.new.reader) (r.at c.read_next.new.reader) in
    let read = c.in_ok-round.ensures in
    let round = c.in_ok-round.round in
    let others = logs_others (outputs_of x.run) c.put.result (steps_of c.args.pending.now) w v c.put.ensures.log in
    record {
      well = record { wrote = c.in_ok-put.ensures.log.held; read = read.read; ready = read.ready; reads = read.reads };
      part = fronts_of x.run (steps_of c.args.pending.now) w v c.in_ok-put.ensures.log;
      past = read_past x here there c.args.number a b round read.read read.reads.lost;
      rest = rest_read x.run (is_cut round.ending) (halves a w) (halves b v) others read.reads;
      spoiled = c.in_ok-put.ensures.log.spoiled;
    }
