use Rattle.std.proofs.Common.{ℕ, List, ap, subst, sym, arith, ◌∙◌}
use Rattle.binding_rules.specs.Tables.{binding_table}
use Rattle.ip_codec.specs.Seen.{seen}
use Rattle.table_words.specs.Layout.{IsCompiled}
use Rattle.verdict_core.specs.Lines.{verdict_in}
use Rattle.verdict_core.specs.Verdicts.{down_lines, lines, up_lines}
use Rattle.verdict_core.proofs.Looks.{reads_none, reads_then}
use Rattle.verdict_core.proofs.judging.judge_under.Goals as goal

pub returns-in-Down-clause-verdict : goal.returns-in-Down-clause-verdict
returns-in-Down-clause-verdict g c = λ t h.
    let under = binding_table t.edition c.args.settings.now t.bindings in
    ap (λ i. verdict_in (lines under (seen i))) c.in-Down.is
    ∙ (ap (λ r. verdict_in (down_lines under r)) c.in-Down.packet.alone ∙ c.judge_down.ensures.verdict t h)

pub returns-in-Up-clause-verdict : goal.returns-in-Up-clause-verdict
returns-in-Up-clause-verdict g c = λ t h.
    let under = binding_table t.edition c.args.settings.now t.bindings in
    ap (λ i. verdict_in (lines under (seen i))) c.in-Up.is
    ∙ (ap (λ r. verdict_in (up_lines under c.in-Up.outer r)) c.in-Up.inner.alone ∙ c.judge_up.ensures.verdict t h)

pub returns-in-UpUnread-clause-verdict : goal.returns-in-UpUnread-clause-verdict
returns-in-UpUnread-clause-verdict g c = λ t h.
    let under = binding_table t.edition c.args.settings.now t.bindings in
    ap (λ i. verdict_in (lines under (seen i))) c.in-UpUnread.is
    ∙ (ap (λ r. verdict_in (up_lines under c.in-UpUnread.outer r)) c.in-UpUnread.inner.refused ∙ c.judge_unread.ensures t)

pub returns-in-Icmp6-clause-verdict : goal.returns-in-Icmp6-clause-verdict
returns-in-Icmp6-clause-verdict g c = λ t h.
    let here = subst (λ (ws : List ℕ). IsCompiled t ws) (sym c.read_count-in-Icmp6.ensures.reads.list) h in
    ap (λ i. verdict_in (lines (binding_table t.edition c.args.settings.now t.bindings) (seen i))) c.in-Icmp6.is
    ∙ c.judge_message.ensures.verdict t here

pub returns-in-Icmp6-clause-reads : goal.returns-in-Icmp6-clause-reads
returns-in-Icmp6-clause-reads g c = reads_then g.W.Words _ _ _ _ g.met.W.Words.goes_on _ _ c.read_count-in-Icmp6.ensures.reads c.judge_message.ensures.reads

pub returns-in-Icmp6-clause-bound : goal.returns-in-Icmp6-clause-bound
returns-in-Icmp6-clause-bound g c = λ t h n w.
    let here = subst (λ (ws : List ℕ). IsCompiled t ws) (sym c.read_count-in-Icmp6.ensures.reads.list) h in
    omega (arith, c.read_count-in-Icmp6.ensures.steps, c.judge_message.ensures.bound t here n w)

pub returns-in-Down-clause-bound : goal.returns-in-Down-clause-bound
returns-in-Down-clause-bound g c = λ t h n w. omega (arith, c.judge_down.ensures.bound t h n w)

pub returns-in-Held-clause-reads : goal.returns-in-Held-clause-reads
returns-in-Held-clause-reads g c = reads_none g.W.Words g.met.W.Words.stays _ _

pub returns-in-Bad-clause-reads : goal.returns-in-Bad-clause-reads
returns-in-Bad-clause-reads g c = reads_none g.W.Words g.met.W.Words.stays _ _
