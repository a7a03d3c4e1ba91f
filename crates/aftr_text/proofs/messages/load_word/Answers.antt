use Rattle.std.proofs.Common.{◌≡◌, ℕ, List, [], ◌+◌, ◌≤◌, length, sym, ap, ◌∙◌, arith}
use Rattle.std.specs.Prelude.{Option, unwrap_or}
use Rattle.std.specs.Borrow.{Bor}
use Rattle.std.proofs.lemmas.List.{length-map}
use Rattle.std.proofs.lemmas.Option.{slice_get_past}
use Rattle.aftr_text.proofs.messages.load_word.Goals as goal

pub returns-then-load-count : goal.returns-then-load-count
returns-then-load-count c =
    let all = c.args.parts.now.arguments in
    let size : length all ≡ length c.arguments-arguments.result.now =
    sym (ap (λ (l : List (List ℕ)). length l) c.arguments-arguments.ensures) ∙ length-map c.arguments-arguments.result.now (λ (w : Bor (List ℕ)). w.now) in
    let past : length all ≤ c.args.load + 5 = omega (arith, size, c.if-load-count.true) in
    sym (ap (λ (o : Option (List ℕ)). unwrap_or o []) (slice_get_past all (c.args.load + 5) past))
