use Rattle.lwaftr_engine.proofs.Words.{refl, sym, ◌∙◌}
use Rattle.lwaftr_engine.proofs.TopLemmas.{same_check, same_migration, same_who}
use Rattle.lwaftr_engine.proofs.at_once.do_at_once.Goals as goal
use Rattle.aftr_text.specs.declared.jobs.Job.TheVariants as asked

pub returns-in-Check-clause-check : goal.returns-in-Check-clause-check
returns-in-Check-clause-check g c = λ name asks.
    let w = g.O.Writing.written c.args.files.now.writing in
    let e = c.check_table.ensures in
    let same = same_check (c.in-Ok.ensures.only (asked.Check name) asks ∙ c.in-Check.is) in
    rw (same ∙ sym c.as_str.ensures) (record {
      read_kept = e.held;
      kept = refl;
      line = e.line;
      refused = e.refused;
      cause = e.cause w;
      failed_read = e.failed_read;
      complete = e.complete w;
      none = refl;
    })

pub returns-in-Who-clause-who : goal.returns-in-Who-clause-who
returns-in-Who-clause-who g c = λ name v4 port asks.
    let w = g.O.Writing.written c.args.files.now.writing in
    let e = c.who_owns.ensures in
    let same = same_who (c.in-Ok.ensures.only (asked.Who name v4 port) asks ∙ c.in-Who.is) in
    rw (same.0 ∙ sym c.as_str-in-Who.ensures, same.1, same.2) (record {
      read_kept = e.held;
      kept = refl;
      line = e.line;
      refused = e.refused;
      cause = e.cause w;
      failed_read = e.failed_read;
      complete = e.complete w;
      none = refl;
    })

pub returns-in-Migrate-clause-migrate : goal.returns-in-Migrate-clause-migrate
returns-in-Migrate-clause-migrate g c = λ input output asks.
    let same = same_migration (c.in-Ok.ensures.only (asked.Migrate input output) asks ∙ c.in-Migrate.is) in
    rw (same.0 ∙ sym c.as_str-in-Migrate.ensures, same.1 ∙ sym c.as_str-in-Migrate-2.ensures) (record {
      files = c.migrate.ensures.files;
      read_kept = c.migrate.ensures.read_kept;
      line = c.migrate.ensures.line;
      refused = c.migrate.ensures.refused;
      cause = c.migrate.ensures.cause;
      failed_read = c.migrate.ensures.failed_read;
      complete = c.migrate.ensures.complete;
      none = refl;
    })
