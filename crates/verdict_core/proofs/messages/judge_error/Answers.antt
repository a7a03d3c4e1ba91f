use Rattle.std.proofs.Common.{Some, ap, sym, subst, ◌∙◌}
use Rattle.binding_rules.specs.Tables.{binding_table}
use Rattle.icmp_codec.specs.Message6.{ReadsMessage6, icmp6_of}
use Rattle.verdict_core.specs.Lines.{verdict_in}
use Rattle.verdict_core.specs.Verdicts.{error_lines}
use Rattle.verdict_core.proofs.Looks.{reads_none}
use Rattle.verdict_core.proofs.messages.judge_error.Goals as goal

pub returns-in-Ok-clause-verdict : goal.returns-in-Ok-clause-verdict
returns-in-Ok-clause-verdict g c = λ t h.
    ap (λ r. verdict_in (error_lines (binding_table t.edition c.args.settings.now t.bindings) r))
    (subst (λ r. ReadsMessage6 r (icmp6_of c.args.src.0 c.args.dst.0 c.args.message.now)) c.in-Ok.is c.icmp6.ensures)
    ∙ c.judge_intact.ensures.verdict t h

pub returns-in-Err-clause-verdict : goal.returns-in-Err-clause-verdict
returns-in-Err-clause-verdict g c = λ t h.
    ap (λ r. verdict_in (error_lines (binding_table t.edition c.args.settings.now t.bindings) r))
    (subst (λ r. ReadsMessage6 r (icmp6_of c.args.src.0 c.args.dst.0 c.args.message.now)) c.in-Err.is c.icmp6.ensures)
    ∙ ap Some (sym c.silent.ensures)

pub returns-in-Err-clause-reads : goal.returns-in-Err-clause-reads
returns-in-Err-clause-reads g c = reads_none g.W.Words g.met.W.Words.stays _ _
