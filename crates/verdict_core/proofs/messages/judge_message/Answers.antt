use Rattle.std.proofs.Common.{◌∙◌}
use Rattle.binding_rules.specs.Tables.{binding_table}
use Rattle.verdict_core.proofs.Joins.{message_led, message_refused, none_of}
use Rattle.verdict_core.proofs.Looks.{reads_none}
use Rattle.verdict_core.proofs.messages.judge_message.Goals as goal

pub returns-in-Some-clause-verdict : goal.returns-in-Some-clause-verdict
returns-in-Some-clause-verdict g c = λ t h.
    message_refused (binding_table t.edition c.args.settings.now t.bindings) c.args.src c.args.dst c.args.message.now _
    (c.message_refusal.ensures ∙ c.in-Some.is)

pub returns-clause-verdict : goal.returns-clause-verdict
returns-clause-verdict g c = λ t h.
    message_led (binding_table t.edition c.args.settings.now t.bindings) c.args.src c.args.dst c.args.message.now _
    (c.message_refusal.ensures ∙ none_of _ c.in_default.not-Some) (c.judge_error.ensures.verdict t h)

pub returns-in-Some-clause-reads : goal.returns-in-Some-clause-reads
returns-in-Some-clause-reads g c = reads_none g.W.Words g.met.W.Words.stays _ _
