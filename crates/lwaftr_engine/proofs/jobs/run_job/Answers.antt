use Rattle.lwaftr_engine.proofs.Words.{Err, [], world, ◌≡◌, read_well}
use Rattle.lwaftr_engine.proofs.RunLemmas.{MadeRun, keeps_run, keeps_unread}
use Rattle.lwaftr_engine.proofs.LoadLemmas.{read_all}
use Rattle.lwaftr_engine.proofs.jobs.run_job.Goals as goal
use Rattle.aftr_io.specs.declared.outside.Fault.TheVariants as fault

pub returns-in-Err-Failed : goal.returns-in-Err-Failed
returns-in-Err-Failed g c =
    let i = g.I.Reading in
    let a = i.readable c.args.files.now.reading in
    let first = read_well _ _ _ _ c.in-Ok.ensures.reads in
    let is : c.loads_in.result ≡ Err fault.Failed = cc (c.in-Err-Failed.is, c.in-Err-Failed.field-0-is) in
    keeps_unread c.args.job.now c.in-Ok.table a (i.readable c.loads_in.new.files) (g.O.Writing.written c.args.files.now.writing)
    (g.S.Sink.out c.args.out.now) (g.S.Sink.faults c.args.out.now)
    c.args.history.now c.requires.none
    (rw (is, c.as_slice.ensures, first) at c.loads_in.ensures.reads) (rw c.as_str.ensures at c.in-Ok.ensures.table)

pub returns : goal.returns
returns g c =
    let i = g.I.Reading in
    let o = g.O.Writing in
    let s = g.S.Sink in
    let a = i.readable c.args.files.now.reading in
    let first = read_well _ _ _ _ c.in-Ok.ensures.reads in
    let run : MadeRun = record {
      one =
          record {
            table = c.one_table.ensures.answer;
            capture = c.one_reading.ensures;
            blocks_left = λ seen. c.one_left.ensures
                (record { seen = seen; ahead = [] });
          };
      run = c.args.job.now;
      t = c.in-Ok.table;
      ls = c.in-Ok-loads_in.loads.items;
      made = c.in-Ok-made_of.made;
      of = c.in-Ok-made_of.ensures.made c.in-Ok.table c.in-Ok-compile.ensures.words;
      fit = rw c.as_slice.ensures at c.in-Ok-loads_in.ensures.fit;
      a = a;
      w = o.written c.args.files.now.writing;
      said = s.out c.args.out.now;
      puts = s.faults c.args.out.now;
      now = world (i.readable c.run_made.new.files.reading) (o.written c.run_made.new.files.writing) (s.out c.run_made.new.out) (s.faults c.run_made.new.out);
      table = rw c.as_str.ensures at c.in-Ok.ensures.table;
      loads = rw (c.as_slice.ensures, first) at c.in-Ok-loads_in.ensures.loads;
    } in
    let left = c.run_made.ensures in
    keeps_run run (i.readable c.loads_in.new.files) c.run_made.result c.run_made.new.history (read_all first c.in-Ok-loads_in.ensures.reads)
    left.left left.rest left.cause left.failed_read left.has_history
