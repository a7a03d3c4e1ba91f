use Rattle.std.proofs.Common.{Ok, Err, take, sym, ◌∙◌, ap}
use Rattle.capture_io.specs.Header.{header_in}
use Rattle.capture_io.proofs.AnswerLemmas.{header_behind_told}
use Rattle.capture_io.proofs.header.read_header_behind.Goals as goal

pub returns-in-Ok-form_of-clause-told : goal.returns-in-Ok-form_of-clause-told
returns-in-Ok-form_of-clause-told g c =
    header_behind_told (g.I.Reading.readable c.args.files.now).held c.args.name.now c.args.first.now (take c.in_ok-count.count c.fill.new.into) c.in-Ok.header.items (Ok c.in-Ok-form_of.form)
    c.requires.first c.in_ok-count.ensures.bytes c.in-Ok.ensures (sym (ap header_in c.deref.ensures.value) ∙ (sym c.form_of.ensures ∙ c.in-Ok-form_of.is))

pub returns-clause-told : goal.returns-clause-told
returns-clause-told g c =
    header_behind_told (g.I.Reading.readable c.args.files.now).held c.args.name.now c.args.first.now (take c.in_ok-count.count c.fill.new.into) c.in-Ok.header.items (Err c.in-Err-form_of.refusal)
    c.requires.first c.in_ok-count.ensures.bytes c.in-Ok.ensures (sym (ap header_in c.deref.ensures.value) ∙ (sym c.form_of.ensures ∙ c.in-Err-form_of.is))
