use Rattle.lwaftr_engine.proofs.Words.{ap, SinkInMemory, IsDemoLine}
use Rattle.lwaftr_engine.proofs.QueryLemmas.{answered}
use Rattle.lwaftr_engine.proofs.Showing.{is_demo, no_history, put_ends}
use Rattle.lwaftr_engine.proofs.demo.show_demo.Goals as goal

pub returns-clause-line : goal.returns-clause-line
returns-clause-line g c =
    let demo = is_demo (c.one_reading.ensures, c.written_is_read.ensures) c.requires.most c.in-Ok.ensures
    (ap (λ (s : SinkInMemory). s.out) c.new-line.ensures) c.in-Done.ensures.left in
    answered (IsDemoLine c.args.seed c.args.count) c.bytes.result.now c.put_line.result _ _ (rw c.bytes.ensures demo.shown) c.put_line.ensures.puts

pub returns-clause-due : goal.returns-clause-due
returns-clause-due g c = put_ends c.put_line.result _ _ _ c.put_line.ensures.puts

pub returns-clause-history : goal.returns-clause-history
returns-clause-history g c =
    no_history c.args.seed c.args.count c.put_line.result _ _ _ c.args.history.now c.put_line.ensures.puts c.in_default-put_line.not-Done c.requires.none

pub returns-in-Done-put_line-clause-line : goal.returns-in-Done-put_line-clause-line
returns-in-Done-put_line-clause-line g c =
    let demo = is_demo (c.one_reading.ensures, c.written_is_read.ensures) c.requires.most c.in-Ok.ensures
    (ap (λ (s : SinkInMemory). s.out) c.new-line.ensures) c.in-Done.ensures.left in
    (c.bytes.result.now, rw c.bytes.ensures demo.shown, c.in-Done-put_line.ensures.puts)

pub returns-in-Done-put_line-clause-history : goal.returns-in-Done-put_line-clause-history
returns-in-Done-put_line-clause-history g c =
    let demo = is_demo (c.one_reading.ensures, c.written_is_read.ensures) c.requires.most c.in-Ok.ensures
    (ap (λ (s : SinkInMemory). s.out) c.new-line.ensures) c.in-Done.ensures.left in
    (c.run_made.new.out.out, demo)
