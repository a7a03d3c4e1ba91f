use Rattle.std.proofs.Common.{◌≡◌, ℕ, List, ap, ◌∙◌}
use Rattle.aftr_io.specs.FailedCalls.{FailedWrite}
use Rattle.aftr_io.specs.declared.last_error.WriteCall.{WriteCall}
use Rattle.aftr_text.specs.Messages.{file_text, write_text}
use Rattle.aftr_text.proofs.said.unwritten_line.Goals as goal

pub returns : goal.returns
returns c =
    let said : List ℕ = c.as_str-3.result.now in
    let name : c.as_str.result.now ≡ c.args.last.now.name = c.as_str.ensures.value ∙ ap (λ (f : FailedWrite). f.name) c.last.view_is in
    let call : c.last.inside.call ≡ c.args.last.now.call = ap (λ (f : FailedWrite). f.call) c.last.view_is in
    let failed = c.as_str-2.ensures.value ∙ (c.in_ok-failed.ensures ∙ ap (λ (k : WriteCall). write_text k) call) in (
      said,
      c.in_ok-line.ensures
          ∙ (ap (λ (n : List ℕ). file_text n c.as_str-2.result.now said) name ∙ ap (λ (k : List ℕ). file_text c.args.last.now.name k said) failed),
    )
