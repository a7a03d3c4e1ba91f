use Rattle.lwaftr_engine.proofs.Words.{Binding, List, ap, length, world, ◌≡◌}
use Rattle.lwaftr_engine.proofs.MigrateLemmas.{migrated, no_line, written_anew}
use Rattle.lwaftr_engine.proofs.migrating.migrate.Goals as goal

pub returns-in-Err-Failed-clause-line : goal.returns-in-Err-Failed-clause-line
returns-in-Err-Failed-clause-line g c = no_line (g.S.Sink.out c.args.out.now)

pub returns-in-Err-Failed-append_all-clause-line : goal.returns-in-Err-Failed-append_all-clause-line
returns-in-Err-Failed-append_all-clause-line g c = no_line (g.S.Sink.out c.args.out.now)

pub returns-clause-files : goal.returns-clause-files
returns-clause-files g c =
    let i = g.I.Reading in
    let o = g.O.Writing in
    let s = g.S.Sink in
    let text = c.in-Ok-newer_text.text in
    let output = c.args.output.now in
    let before = world (i.readable c.args.files.now.reading) (o.written c.args.files.now.writing) (s.out c.args.out.now) (s.faults c.args.out.now) in
    let after = world (i.readable c.table_in.new.files) (o.written c.append_all.new.files) (s.out c.put_count.new.out) (s.faults c.put_count.new.out) in
    let put = rw (ap (λ (l : List Binding). length l) c.bindings-count.ensures.value) at c.put_count.ensures.puts in
    let bytes : c.as_bytes.result.now ≡ text = cc (c.as_bytes.ensures.value, c.as_str.ensures) in
    let writes = written_anew output text before.writing.held (o.written c.create.new.self).held after.writing.held
    c.in-Ok-create.ensures.held (rw bytes at c.in-Ok-append_all.ensures.held) in
    migrated c.args.input.now output c.in-Ok.table text c.put_count.result before after c.in-Ok-newer_text.ensures put c.in-Ok.ensures.table
    writes
