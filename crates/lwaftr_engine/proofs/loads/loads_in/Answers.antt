use Rattle.lwaftr_engine.proofs.Words.{◌≡◌, ◌+◌, ◌-◌, ap, arith, has_failed, IsFitFor, IsLoadOf}
use Rattle.lwaftr_engine.proofs.Exits.{handed}
use Rattle.lwaftr_engine.proofs.LoadLemmas.{read_all, reads_within, zipped_on}
use Rattle.lwaftr_engine.proofs.Moving.{told_both}
use Rattle.lwaftr_engine.proofs.loads.loads_in.Goals as goal

pub batches-preserved : goal.batches-preserved
batches-preserved g c =
    let ws = c.args.words.now in
    let at = c.batches.at in
    let count = c.min-count.result in
    let many : c.batches.at + c.min-count.result - c.batches.at ≡ c.min-count.result = omega arith in
    let items = c.batches.loads.items in
    let batch = c.in_ok-batch in
    let appended = c.in_ok-append.ensures.items in
    let loads = rw (c.batches.invariant.readable, many) at batch.ensures.loads in
    record {
      within = omega (arith, c.batches.invariant.within, c.min-count.ensures);
      loads = rw appended (told_both (g.I.Reading.readable c.args.files.now).held _ _ _
          (λ m first next. zipped_on (IsLoadOf m) ws items batch.batch.items at count first next) c.batches.invariant.loads loads);
      fit = rw appended (zipped_on IsFitFor ws items batch.batch.items at count c.batches.invariant.fit (rw many at batch.ensures.fit));
      readable = read_all c.batches.invariant.readable c.in_ok-batch.ensures.reads;
    }

pub returns-in_err-batch-clause-reads : goal.returns-in_err-batch-clause-reads
returns-in_err-batch-clause-reads g c =
    let f = g.I.Reading in
    let at = c.batches.at in
    let a = f.readable c.args.files.now in
    let d = f.readable c.batch_in.new.files in
    let r = c.from_residual-in_err-batch in
    rw (ap (λ r. has_failed r) (handed r.result r.ensures.1)) (reads_within _ c.args.words.now at (at + c.min-count.result - at) a (f.readable c.batches.files) d
    c.batches.invariant.readable c.in_err-batch.ensures.reads)
