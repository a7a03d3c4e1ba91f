use Rattle.std.proofs.Common.{Some, ap, sym, subst, ◌∙◌}
use Rattle.binding_rules.specs.Tables.{binding_table}
use Rattle.icmp_relay.specs.Quotes.{ReadsQuote, quote_of}
use Rattle.verdict_core.specs.Lines.{verdict_in}
use Rattle.verdict_core.specs.Verdicts.{quote_lines}
use Rattle.verdict_core.proofs.Looks.{reads_none}
use Rattle.verdict_core.proofs.messages.judge_intact.Goals as goal

pub returns-in-Ok-clause-verdict : goal.returns-in-Ok-clause-verdict
returns-in-Ok-clause-verdict g c = λ t h.
    ap (λ r. verdict_in (quote_lines (binding_table t.edition c.args.settings.now t.bindings) c.args.error.now.kind c.args.error.now.word r))
    (subst (λ r. ReadsQuote r (quote_of c.args.error.now.rest.now)) c.in-Ok.is c.read_quote.ensures.reads)
    ∙ c.judge_quote.ensures.verdict t h

pub returns-in-Err-clause-verdict : goal.returns-in-Err-clause-verdict
returns-in-Err-clause-verdict g c = λ t h.
    ap (λ r. verdict_in (quote_lines (binding_table t.edition c.args.settings.now t.bindings) c.args.error.now.kind c.args.error.now.word r))
    (subst (λ r. ReadsQuote r (quote_of c.args.error.now.rest.now)) c.in-Err.is c.read_quote.ensures.reads)
    ∙ ap Some (sym c.silent.ensures)

pub returns-in-Err-clause-reads : goal.returns-in-Err-clause-reads
returns-in-Err-clause-reads g c = reads_none g.W.Words g.met.W.Words.stays _ _
