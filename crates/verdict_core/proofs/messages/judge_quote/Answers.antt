use Rattle.std.proofs.Common.{ℕ, List, Option, Some, None, subst, sym, ap, arith, ◌∙◌}
use Rattle.std.specs.Option.{option_map}
use Rattle.binding_rules.specs.Tables.{binding_table}
use Rattle.icmp_relay.specs.Quotes.{tunnel_quote}
use Rattle.port_locate.specs.Keys.{key_of}
use Rattle.port_locate.specs.declared.keys.Key.{Key}
use Rattle.port_locate.specs.declared.keys.Wants.{Wants}
use Rattle.table_words.specs.Layout.{IsCompiled}
use Rattle.verdict_core.specs.Verdicts.{owner_end}
use Rattle.verdict_core.proofs.Joins.{none_of, quote_lost, quote_refused, quote_relayed}
use Rattle.verdict_core.proofs.Looks.{one_look, reads_none, reads_then}
use Rattle.verdict_core.proofs.messages.judge_quote.Goals as goal

pub returns-in-Some-clause-verdict : goal.returns-in-Some-clause-verdict
returns-in-Some-clause-verdict g c = λ t h.
    quote_refused (binding_table t.edition c.args.settings.now t.bindings) c.args.kind c.args.word (tunnel_quote c.args.quote.now) _
    (c.quote_refusal.ensures ∙ c.in-Some.is)

pub returns-in-Some-clause-reads : goal.returns-in-Some-clause-reads
returns-in-Some-clause-reads g c = reads_none g.W.Words g.met.W.Words.stays _ _

pub returns-in_default-quote_wants-clause-reads : goal.returns-in_default-quote_wants-clause-reads
returns-in_default-quote_wants-clause-reads g c = reads_none g.W.Words g.met.W.Words.stays _ _

pub returns-in_default-quote_wants-clause-verdict : goal.returns-in_default-quote_wants-clause-verdict
returns-in_default-quote_wants-clause-verdict g c = λ t h.
    quote_lost (binding_table t.edition c.args.settings.now t.bindings) c.args.kind c.args.word (tunnel_quote c.args.quote.now) _
    (c.quote_refusal.ensures ∙ none_of _ c.in_default.not-Some) None
    (ap (λ (k : Key). owner_end t (tunnel_quote c.args.quote.now).inner.dst k)
    (sym (c.quote_wants.ensures.destination ∙ ap (λ (o : Option Wants). key_of (option_map (λ w. w.destination) o)) (none_of _ c.in_default-quote_wants.not-Some))))
    (ap Some (sym c.silent.ensures))

pub returns-in-Some-receiver_refusal-clause-verdict : goal.returns-in-Some-receiver_refusal-clause-verdict
returns-in-Some-receiver_refusal-clause-verdict g c = λ t h.
    quote_lost (binding_table t.edition c.args.settings.now t.bindings) c.args.kind c.args.word (tunnel_quote c.args.quote.now) _
    (c.quote_refusal.ensures ∙ none_of _ c.in_default.not-Some) _
    (c.look-end.ensures.owner t h ∙ ap (λ (k : Key). owner_end t (tunnel_quote c.args.quote.now).inner.dst k)
    (sym (c.quote_wants.ensures.destination ∙ ap (λ (o : Option Wants). key_of (option_map (λ w. w.destination) o)) c.in-Some-quote_wants.is)))
    (c.receiver_refusal.ensures ∙ c.in-Some-receiver_refusal.is)

pub returns-in-Some-receiver_refusal-clause-reads : goal.returns-in-Some-receiver_refusal-clause-reads
returns-in-Some-receiver_refusal-clause-reads g c =
    record { list = c.look-end.ensures.list; reads = c.look-end.ensures.reads; goes = c.look-end.ensures.goes; later = c.look-end.ensures.later }

pub returns-in-Some-receiver_refusal-clause-bound : goal.returns-in-Some-receiver_refusal-clause-bound
returns-in-Some-receiver_refusal-clause-bound g c = λ t h n w. omega (arith, one_look c.look-end.ensures.bounds t h n w)

pub returns-clause-verdict : goal.returns-clause-verdict
returns-clause-verdict g c = λ t h.
    let here = subst (λ (ws : List ℕ). IsCompiled t ws) (sym c.look-end.ensures.list) h in
    quote_relayed (binding_table t.edition c.args.settings.now t.bindings) c.args.kind c.args.word (tunnel_quote c.args.quote.now) _
    (c.quote_refusal.ensures ∙ none_of _ c.in_default.not-Some) _
    (c.look-end.ensures.owner t h ∙ ap (λ (k : Key). owner_end t (tunnel_quote c.args.quote.now).inner.dst k)
    (sym (c.quote_wants.ensures.destination ∙ ap (λ (o : Option Wants). key_of (option_map (λ w. w.destination) o)) c.in-Some-quote_wants.is)))
    (c.receiver_refusal.ensures ∙ none_of _ c.in_default-receiver_refusal.not-Some)
    _ (c.destination_of-source.ensures.address t here)
    (c.destination_of-source.ensures.owner t here ∙ ap (λ (k : Key). owner_end t (tunnel_quote c.args.quote.now).inner.src k)
    (sym (c.quote_wants.ensures.source ∙ ap (λ (o : Option Wants). key_of (option_map (λ w. w.source) o)) c.in-Some-quote_wants.is)))
    c.relay.ensures

pub returns-clause-reads : goal.returns-clause-reads
returns-clause-reads g c =
    reads_then g.W.Words c.args.words.now c.look-end.new.words c.args.steps.now c.look-end.new.steps g.met.W.Words.goes_on c.destination_of-source.new.words
    c.destination_of-source.new.steps
    (record { list = c.look-end.ensures.list; reads = c.look-end.ensures.reads; goes = c.look-end.ensures.goes; later = c.look-end.ensures.later })
    (record {
      list = c.destination_of-source.ensures.list;
      reads = c.destination_of-source.ensures.reads;
      goes = c.destination_of-source.ensures.goes;
      later = omega (arith, c.destination_of-source.ensures.rises);
    })

pub returns-clause-bound : goal.returns-clause-bound
returns-clause-bound g c = λ t h n w.
    let here = subst (λ (ws : List ℕ). IsCompiled t ws) (sym c.look-end.ensures.list) h in
    omega (arith, one_look c.look-end.ensures.bounds t h n w, one_look c.destination_of-source.ensures.bounds t here n w)
