use Rattle.std.proofs.Common.{◌≡◌, ◌∙◌, ap₂, rules, codes}
use Rattle.std.proofs.lemmas.Result.{IfOk-weaker}
use Rattle.clap.specs.Words.{app_of, new_app, rule_of, with_rule}
use Rattle.aftr_text.specs.Commands.{and_needs, loads_rule}
use Rattle.aftr_text.proofs.CommandLemmas.{loads_are}
use Rattle.aftr_text.proofs.commands.run_command.Goals as goal

pub returns : goal.returns
returns c =
    let command_is : app_of c.in_ok-command-5.command ≡ and_needs (and_needs (and_needs (and_needs (and_needs (new_app (codes "run"))
    (codes "input")) (codes "output")) (codes "verdicts")) (codes "versions")) (codes "table") = search rules in
    let loads_is : rule_of c.num_args-loads.result ≡ loads_rule =
    loads_are c.new-2.result c.num_args-loads.result c.new-2.ensures.rule c.num_args-loads.ensures.0 (search rules) in
    IfOk-weaker c.arg.result _ _ (λ r added. added.shape (search rules) ∙ ap₂ with_rule command_is loads_is) c.arg.ensures
