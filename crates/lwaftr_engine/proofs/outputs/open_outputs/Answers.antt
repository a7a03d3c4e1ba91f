use Rattle.lwaftr_engine.proofs.Words.{ap, initial_text, outputs_of, ◌∙◌}
use Rattle.lwaftr_engine.proofs.Apart.{apart}
use Rattle.lwaftr_engine.proofs.LineLemmas.{behind_nothing}
use Rattle.lwaftr_engine.proofs.Writing.{none_logged}
use Rattle.lwaftr_engine.proofs.outputs.open_outputs.Goals as goal

pub open-requires : goal.open-requires
open-requires g c = record { distinct = rw c.names_of.ensures (apart c.args.job.now c.requires.apart) }

pub returns-in_err-push_header : goal.returns-in_err-push_header
returns-in_err-push_header g c = record {
  log = none_logged (outputs_of c.args.job.now) c.from_residual.result _ (g.O.Writing.written c.args.files.now) c.from_residual.ensures.1;
}

pub returns-in_err-line : goal.returns-in_err-line
returns-in_err-line g c = record {
  log = none_logged (outputs_of c.args.job.now) c.from_residual-in_err-line.result _ (g.O.Writing.written c.args.files.now)
      c.from_residual-in_err-line.ensures.1;
}

pub returns : goal.returns
returns g c =
    let head = c.deref.ensures.value ∙ behind_nothing _ _ _ c.new-header.ensures.items c.in_ok-push_header.ensures.bytes in
    let line = c.as_bytes.ensures.value ∙ (c.as_str-2.ensures ∙ (c.in_ok-line.ensures ∙ ap initial_text c.as_str.ensures)) in
    record { log = rw (c.names_of.ensures, head, line) at c.open.ensures.log }
