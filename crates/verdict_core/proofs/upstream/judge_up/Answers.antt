use Rattle.std.proofs.Common.{◌≡◌, ℕ, List, Some, ap, subst, sym, arith, ◌∙◌}
use Rattle.binding_rules.specs.Tables.{BindingTable, binding_table}
use Rattle.ip_codec.specs.Packet4.{packet4}
use Rattle.port_locate.specs.Keys.{upstream_key}
use Rattle.port_locate.specs.declared.keys.Key.{Key}
use Rattle.table_words.specs.Layout.{IsCompiled}
use Rattle.verdict_core.specs.Lines.{decided}
use Rattle.verdict_core.specs.Verdicts.{owner_end}
use Rattle.verdict_core.proofs.Joins.{up_denied, up_kept, up_led, up_refused}
use Rattle.verdict_core.proofs.Looks.{one_look, reads_then}
use Rattle.verdict_core.proofs.upstream.judge_up.Given.{Over}
use Rattle.verdict_core.proofs.upstream.judge_up.Goals as goal
use Rattle.verdict_core.proofs.upstream.judge_up.Goals.{After-look-end}

-- the end that was looked for is that of the owner of the source
owner_is : (g : Over) (c : After-look-end g) → (t : BindingTable) → IsCompiled t (g.W.Words.list c.args.words.now) →
    c.look-end.result ≡ owner_end t (packet4 c.args.packet.now).src (upstream_key (packet4 c.args.packet.now))
owner_is g c t h = c.look-end.ensures.owner t h ∙ ap (λ (k : Key). owner_end t (packet4 c.args.packet.now).src k) c.in-Ok.ensures.source

pub returns-in-Err-clause-verdict : goal.returns-in-Err-clause-verdict
returns-in-Err-clause-verdict g c = λ t h.
    up_refused (binding_table t.edition c.args.settings.now t.bindings) c.args.outer.now (packet4 c.args.packet.now) _
    (c.in-Err.ensures.lines ∙ ap Some (sym c.refuse.ensures.verdict))

pub returns-then-stops_sender-clause-verdict : goal.returns-then-stops_sender-clause-verdict
returns-then-stops_sender-clause-verdict g c = λ t h.
    up_denied (binding_table t.edition c.args.settings.now t.bindings) c.args.outer.now (packet4 c.args.packet.now) _ c.in-Ok.ensures.lines _
    (owner_is g (goal.at.returns-then-stops_sender-clause-verdict g c).After-look-end t h)
    (c.stops_sender.ensures ∙ ap (λ b. decided b c.stops_sender.new.verdict) c.if-stops_sender.true)

pub returns-then-stops_onward-clause-verdict : goal.returns-then-stops_onward-clause-verdict
returns-then-stops_onward-clause-verdict g c = λ t h.
    up_kept (binding_table t.edition c.args.settings.now t.bindings) c.args.outer.now (packet4 c.args.packet.now) _ c.in-Ok.ensures.lines _
    (owner_is g (goal.at.returns-then-stops_onward-clause-verdict g c).After-look-end t h)
    (c.stops_sender.ensures ∙ ap (λ b. decided b c.stops_sender.new.verdict) c.if-stops_sender.false)
    (c.stops_onward.ensures ∙ ap (λ b. decided b c.stops_onward.new.verdict) c.if-stops_onward.true)

pub returns-clause-verdict : goal.returns-clause-verdict
returns-clause-verdict g c = λ t h.
    let here = subst (λ (ws : List ℕ). IsCompiled t ws) (sym c.look-end.ensures.list) h in
    up_led (binding_table t.edition c.args.settings.now t.bindings) c.args.outer.now (packet4 c.args.packet.now) _ c.in-Ok.ensures.lines _
    (owner_is g (goal.at.returns-clause-verdict g c).After-look-end t h)
    (c.stops_sender.ensures ∙ ap (λ b. decided b c.stops_sender.new.verdict) c.if-stops_sender.false)
    (c.stops_onward.ensures ∙ ap (λ b. decided b c.stops_onward.new.verdict) c.if-stops_onward.false) c.destination_of-destination.result
    (c.destination_of-destination.ensures.address t here)
    (c.destination_of-destination.ensures.owner t here ∙ ap (λ (k : Key). owner_end t (packet4 c.args.packet.now).dst k) c.in-Ok.ensures.destination)
    c.onward.ensures

pub returns-clause-reads : goal.returns-clause-reads
returns-clause-reads g c =
    reads_then g.W.Words c.args.words.now c.look-end.new.words c.args.steps.now c.look-end.new.steps g.met.W.Words.goes_on c.destination_of-destination.new.words
    c.destination_of-destination.new.steps
    (record { list = c.look-end.ensures.list; reads = c.look-end.ensures.reads; goes = c.look-end.ensures.goes; later = c.look-end.ensures.later })
    (record {
      list = c.destination_of-destination.ensures.list;
      reads = c.destination_of-destination.ensures.reads;
      goes = c.destination_of-destination.ensures.goes;
      later = omega (arith, c.destination_of-destination.ensures.rises);
    })

pub returns-clause-bound : goal.returns-clause-bound
returns-clause-bound g c = λ t h n w.
    let here = subst (λ (ws : List ℕ). IsCompiled t ws) (sym c.look-end.ensures.list) h in
    omega (arith, one_look c.look-end.ensures.bounds t h n w, one_look c.destination_of-destination.ensures.bounds t here n w)
