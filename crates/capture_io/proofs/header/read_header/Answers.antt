use Rattle.std.proofs.Common.{Ok, Err, take, sym, ◌∙◌}
use Rattle.capture_io.proofs.AnswerLemmas.{header_told}
use Rattle.capture_io.proofs.header.read_header.Goals as goal

pub returns-in-Ok-clause-told : goal.returns-in-Ok-clause-told
returns-in-Ok-clause-told g c =
    header_told (g.I.Reading.readable c.args.files.now).held c.args.name.now (take c.in_ok-count.count c.fill.new.into) (Ok c.in-Ok.form) c.in_ok-count.ensures.bytes (sym c.form_of.ensures ∙ c.in-Ok.is)

pub returns-in-Err-clause-told : goal.returns-in-Err-clause-told
returns-in-Err-clause-told g c =
    header_told (g.I.Reading.readable c.args.files.now).held c.args.name.now (take c.in_ok-count.count c.fill.new.into) (Err c.in-Err.refusal) c.in_ok-count.ensures.bytes (sym c.form_of.ensures ∙ c.in-Err.is)
