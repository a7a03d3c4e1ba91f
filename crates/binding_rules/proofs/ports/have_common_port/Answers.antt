use Rattle.std.proofs.Common.{sym, ◌∙◌}
use Rattle.std.proofs.lemmas.Bool.{true≢false}
use Rattle.binding_rules.proofs.Greatest.{tried_first, tried_second, tried_is_common}
use Rattle.binding_rules.proofs.ports.have_common_port.Goals as goal

pub returns-then-owns_port : goal.returns-then-owns_port
returns-then-owns_port c =
    let first = rw (c.greatest_port.ensures, c.greatest_port-2.ensures) at (sym c.owns_port.ensures ∙ c.if-owns_port.true) in
    rw (c.owns_port-then-owns_port.ensures, c.greatest_port.ensures, c.greatest_port-2.ensures)
    ((λ second. tried_is_common c.args.x c.args.y first second), tried_second c.args.x c.args.y c.requires.first c.requires.second)

pub returns-else-owns_port : goal.returns-else-owns_port
returns-else-owns_port c =
    let none = rw (c.greatest_port.ensures, c.greatest_port-2.ensures) at (sym c.owns_port.ensures ∙ c.if-owns_port.false) in (
      (λ t. absurd (true≢false (sym t ∙ c.if-owns_port.false))),
      λ common. absurd (true≢false (sym (tried_first c.args.x c.args.y c.requires.first c.requires.second common) ∙ none)),
    )
