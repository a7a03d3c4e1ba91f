use Rattle.lwaftr_engine.proofs.Words.{ap, rules, setup_of, sink_state, summary_text, ◌∙◌, SinkState}
use Rattle.lwaftr_engine.proofs.Apart.{apart}
use Rattle.lwaftr_engine.proofs.LastLemmas.{IsLeft, cut, finished, line_put, none_cut, others_kept}
use Rattle.lwaftr_engine.proofs.finishing.finish.Given.{Over}
use Rattle.lwaftr_engine.proofs.finishing.finish.Goals as goal
use Rattle.lwaftr_engine.proofs.finishing.finish.Goals.{After-write_last}

pub write_last-requires : goal.write_last-requires
write_last-requires g c = record { distinct = rw c.names_of.ensures (apart (setup_of c.args.task).run c.requires.apart) }

pub returns-in_err-versions-clause-cut : goal.returns-in_err-versions-clause-cut
returns-in_err-versions-clause-cut g c =
    none_cut (setup_of c.args.task) c.args.progress.now c.args.points.now c.from_residual.result (g.O.Writing.written c.args.files.now)
    (g.S.Sink.out c.args.out.now) (search rules)

pub returns-in_err-lines-clause-cut : goal.returns-in_err-lines-clause-cut
returns-in_err-lines-clause-cut g c =
    none_cut (setup_of c.args.task) c.args.progress.now c.args.points.now c.from_residual-in_err-lines.result (g.O.Writing.written c.args.files.now)
    (g.S.Sink.out c.args.out.now) (search rules)

pub returns-in_err-line-clause-cut : goal.returns-in_err-line-clause-cut
returns-in_err-line-clause-cut g c =
    none_cut (setup_of c.args.task) c.args.progress.now c.args.points.now c.from_residual-in_err-line.result (g.O.Writing.written c.args.files.now)
    (g.S.Sink.out c.args.out.now) (search rules)

-- what is left
abbrev left : (g : Over) (c : After-write_last g) →
    IsLeft (setup_of c.args.task) c.args.progress.now c.args.points.now c.as_bytes.result.now c.deref.result.now c.as_bytes-2.result.now
left g c = record {
  versions_are = c.as_bytes.ensures.value ∙ c.in_ok-versions.ensures;
  lines_are = λ taken stands. c.deref.ensures.value ∙ c.in_ok-lines.ensures taken stands;
  line_is = c.as_bytes-2.ensures.value ∙ (c.as_str.ensures ∙ (c.in_ok-line.ensures ∙ ap summary_text c.totals_with.ensures));
}

abbrev before : (g : Over) (c : After-write_last g) → SinkState
before g c = sink_state (g.S.Sink.out c.args.out.now) (g.S.Sink.faults c.args.out.now)

abbrev after : (g : Over) (c : After-write_last g) → SinkState
after g c = sink_state (g.S.Sink.out c.write_last.new.sink) (g.S.Sink.faults c.write_last.new.sink)

pub returns-clause-finished : goal.returns-clause-finished
returns-clause-finished g c =
    let k = (goal.at.returns-clause-finished g c).After-write_last in
    finished (setup_of c.args.task) c.args.progress.now c.args.points.now (left g k) c.write_last.result
    (g.O.Writing.written c.args.files.now) (g.O.Writing.written c.write_last.new.files) (before g k) (after g k) (rw c.names_of.ensures at c.write_last.ensures.end)

pub returns-clause-cut : goal.returns-clause-cut
returns-clause-cut g c =
    let k = (goal.at.returns-clause-cut g c).After-write_last in
    cut (setup_of c.args.task) c.args.progress.now c.args.points.now (left g k) c.write_last.result
    (g.O.Writing.written c.args.files.now) (g.O.Writing.written c.write_last.new.files) (before g k) (after g k) (rw c.names_of.ensures at c.write_last.ensures.end)

pub returns-clause-others : goal.returns-clause-others
returns-clause-others g c =
    let k = (goal.at.returns-clause-others g c).After-write_last in
    others_kept (setup_of c.args.task) c.args.progress.now c.args.points.now (left g k) c.write_last.result
    (g.O.Writing.written c.args.files.now) (g.O.Writing.written c.write_last.new.files) (before g k) (after g k) (rw c.names_of.ensures at c.write_last.ensures.end)

pub returns-clause-summary : goal.returns-clause-summary
returns-clause-summary g c =
    let k = (goal.at.returns-clause-summary g c).After-write_last in
    line_put (setup_of c.args.task) c.args.progress.now c.args.points.now (left g k) c.write_last.result
    (g.O.Writing.written c.args.files.now) (g.O.Writing.written c.write_last.new.files) (before g k) (after g k) (rw c.names_of.ensures at c.write_last.ensures.end)
