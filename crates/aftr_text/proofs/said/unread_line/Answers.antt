use Rattle.std.proofs.Common.{◌≡◌, ℕ, List, ap, ◌∙◌}
use Rattle.aftr_io.specs.FailedCalls.{FailedRead}
use Rattle.aftr_text.specs.Messages.{file_text, read_text}
use Rattle.aftr_text.proofs.said.unread_line.Goals as goal

pub returns : goal.returns
returns c =
    let said : List ℕ = c.as_str-3.result.now in
    let name : c.as_str.result.now ≡ c.args.last.now.name = c.as_str.ensures.value ∙ ap (λ (f : FailedRead). f.name) c.last.view_is in
    let at : c.last.inside.at ≡ c.args.last.now.at = ap (λ (f : FailedRead). f.at) c.last.view_is in
    let failed = c.as_str-2.ensures.value ∙ (c.in_ok-failed.ensures ∙ ap (λ (k : ℕ). read_text k) at) in (
      said,
      c.in_ok-line.ensures
          ∙ (ap (λ (n : List ℕ). file_text n c.as_str-2.result.now said) name ∙ ap (λ (k : List ℕ). file_text c.args.last.now.name k said) failed),
    )
