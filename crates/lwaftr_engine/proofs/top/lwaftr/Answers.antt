use Rattle.lwaftr_engine.proofs.Words.{World, ap, refl, texts, world, ◌∙◌, ◌≡◌}
use Rattle.lwaftr_engine.proofs.TopLemmas.{demo_asked, asked_run}
use Rattle.lwaftr_engine.proofs.PromptLemmas.{demo_not_run, no_run, no_show, not_usage, one_cause, run_not_demo, same_demo, same_run, short_demo}
use Rattle.lwaftr_engine.proofs.PromptLemmas.{short_run, show_not_usage}
use Rattle.lwaftr_engine.proofs.top.lwaftr.Given.{Over}
use Rattle.lwaftr_engine.proofs.top.lwaftr.Goals as goal
use Rattle.lwaftr_engine.specs.declared.at_once.AtOnce.TheVariants as at_once
use Rattle.aftr_text.specs.declared.jobs.Job.TheVariants as asked
use Rattle.aftr_io.specs.declared.outside.Outside.{Outside}

abbrev there : (g : Over) → Outside g.row.I.Denot g.row.O.Denot → g.row.S.Denot → World
there g files out = world (g.I.Reading.readable files.reading) (g.O.Writing.written files.writing) (g.S.Sink.out out) (g.S.Sink.faults out)

-- what was not touched is as it was
same : (g : Over) {files old : Outside g.row.I.Denot g.row.O.Denot} {out was : g.row.S.Denot} → (files ≡ old) × (out ≡ was) →
    there g files out ≡ there g old was
same g untouched = λ i. there g (untouched.0 i) (untouched.1 i)

pub returns-in-Ended : goal.returns-in-Ended
returns-in-Ended g c =
    let e = c.do_at_once.ensures in
    let is = c.in-Ended.is in
    let s = c.in-Ended.status in
    let h = c.args.history.now in
    let old = there g c.args.files.now c.args.out.now in
    record {
      usage = λ usage. e.usage (is ∙ ap at_once.Ended usage);
      no_job = λ nothing. rw is at (e.no_job nothing).0;
      untouched = λ nothing. ((e.no_job nothing).1.0, (e.no_job nothing).1.1, c.requires.none);
      run = λ run asks.
          let left = e.run run asks in
          rw (same g left.1) (no_run run s old h (short_run (rw is at left.0)) c.requires.none);
      check = λ name asks. rw c.requires.none (rw is at (e.check name asks));
      who = λ name v4 port asks. rw c.requires.none (rw is at (e.who name v4 port asks));
      demo = λ seed count workers asks.
          let left = e.demo seed count workers asks in
          rw (same g left.1) (no_show seed count s old h (short_demo (rw is at left.0)) c.requires.none);
      migrate = λ input output asks. rw c.requires.none (rw is at (e.migrate input output asks));
      cause = one_cause s old (there g c.do_at_once.new.files c.do_at_once.new.out) (e.cause s is);
    }

pub run_job-requires-clause-job : goal.run_job-requires-clause-job
run_job-requires-clause-job g c κs within = asked_run (texts c.args.words.now) c.in-Run.job (c.do_at_once.ensures.left_run c.in-Run.job c.in-Run.is)

pub returns-in-Run : goal.returns-in-Run
returns-in-Run g c =
    let e = c.do_at_once.ensures in
    let job = c.in-Run.job in
    let is = c.in-Run.is in
    let asked_for = e.left_run job is in
    let left = e.run job asked_for in
    let mid = there g c.do_at_once.new.files c.do_at_once.new.out in
    let new = there g c.run_job.new.files c.run_job.new.out in
    let is_same = same g left.1 in
    record {
      usage = λ usage. absurd (not_usage job c.run_job.result mid new c.run_job.new.history c.run_job.ensures usage);
      no_job = λ nothing. absurd (nothing (asked.Run job) asked_for);
      untouched = λ nothing. absurd (nothing (asked.Run job) asked_for);
      run = λ run asks. rw (← (same_run (rw is at (e.run run asks).0))) (rw (← is_same) c.run_job.ensures);
      check = λ name asks. absurd (rw is at (e.check name asks));
      who = λ name v4 port asks. absurd (rw is at (e.who name v4 port asks));
      demo = λ seed count workers asks. absurd (run_not_demo (rw is at (e.demo seed count workers asks).0));
      migrate = λ input output asks. absurd (rw is at (e.migrate input output asks));
      cause = rw (← is_same) c.run_job.ensures.cause;
    }

pub show_demo-requires-clause-some : goal.show_demo-requires-clause-some
show_demo-requires-clause-some g c κs within =
    (demo_asked (texts c.args.words.now) _ _ _ (c.do_at_once.ensures.left_demo _ _ _ c.in-Demo.is)).0.0

pub show_demo-requires-clause-most : goal.show_demo-requires-clause-most
show_demo-requires-clause-most g c κs within =
    (demo_asked (texts c.args.words.now) _ _ _ (c.do_at_once.ensures.left_demo _ _ _ c.in-Demo.is)).0.1

pub show_demo-requires-clause-some_worker : goal.show_demo-requires-clause-some_worker
show_demo-requires-clause-some_worker g c κs within =
    (demo_asked (texts c.args.words.now) _ _ _ (c.do_at_once.ensures.left_demo _ _ _ c.in-Demo.is)).1.0

pub show_demo-requires-clause-few_workers : goal.show_demo-requires-clause-few_workers
show_demo-requires-clause-few_workers g c κs within =
    (demo_asked (texts c.args.words.now) _ _ _ (c.do_at_once.ensures.left_demo _ _ _ c.in-Demo.is)).1.1

pub returns-in-Demo : goal.returns-in-Demo
returns-in-Demo g c =
    let e = c.do_at_once.ensures in
    let seed = c.in-Demo.seed in
    let count = c.in-Demo.count in
    let workers = c.in-Demo.workers in
    let is = c.in-Demo.is in
    let asked_for = e.left_demo seed count workers is in
    let left = e.demo seed count workers asked_for in
    let files = c.do_at_once.new.files in
    let reading = g.I.Reading.readable files.reading in
    let writing = g.O.Writing.written files.writing in
    let s = c.show_demo.result in
    let is_same = same g left.1 in
    let shown = c.show_demo.ensures in
    record {
      usage = λ usage. absurd (show_not_usage s shown.due usage);
      no_job = λ nothing. absurd (nothing (asked.Demo seed count workers) asked_for);
      untouched = λ nothing. absurd (nothing (asked.Demo seed count workers) asked_for);
      run = λ run asks. absurd (demo_not_run (rw is at (e.run run asks).0));
      check = λ name asks. absurd (rw is at (e.check name asks));
      who = λ name v4 port asks. absurd (rw is at (e.who name v4 port asks));
      demo = λ other_seed other_count other_workers asks.
          let alike = same_demo (rw is at (e.demo other_seed other_count other_workers asks).0) in
          rw (← alike.0) (rw (← alike.1)
          (rw (← is_same) (record { read_kept = refl; kept = refl; line = shown.line; cause = shown.cause reading writing; due = shown.due; history_is = shown.history })));
      migrate = λ input output asks. absurd (rw is at (e.migrate input output asks));
      cause = rw (← is_same) (one_cause s (there g files c.do_at_once.new.out) (there g files c.show_demo.new.out) (shown.cause reading writing));
    }
