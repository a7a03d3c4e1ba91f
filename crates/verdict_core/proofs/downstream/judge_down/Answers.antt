use Rattle.std.proofs.Common.{Some, ap, sym, arith, ◌∙◌}
use Rattle.binding_rules.specs.Tables.{binding_table}
use Rattle.ip_codec.specs.Packet4.{packet4}
use Rattle.port_locate.specs.declared.keys.Key.{Key}
use Rattle.verdict_core.specs.Verdicts.{owner_end}
use Rattle.verdict_core.proofs.Joins.{down_led, down_refused}
use Rattle.verdict_core.proofs.Looks.{looks_once, one_look}
use Rattle.verdict_core.proofs.downstream.judge_down.Goals as goal

pub returns-in-Err-clause-verdict : goal.returns-in-Err-clause-verdict
returns-in-Err-clause-verdict g c = λ t h.
    down_refused (binding_table t.edition c.args.settings.now t.bindings) (packet4 c.args.packet.now) _
    (c.in-Err.ensures.lines ∙ ap Some (sym c.refuse.ensures.verdict))

pub returns-clause-verdict : goal.returns-clause-verdict
returns-clause-verdict g c = λ t h.
    down_led (binding_table t.edition c.args.settings.now t.bindings) (packet4 c.args.packet.now) _ c.in-Ok.ensures.lines _
    (c.look-end.ensures.owner t h ∙ ap (λ (k : Key). owner_end t (packet4 c.args.packet.now).dst k) c.in-Ok.ensures.destination) c.down_way.ensures

pub returns-in-Err-clause-bound : goal.returns-in-Err-clause-bound
returns-in-Err-clause-bound g c = λ t h n w. omega (arith, c.refuse.ensures.steps, looks_once t n w)

pub returns-clause-bound : goal.returns-clause-bound
returns-clause-bound g c = λ t h n w. one_look c.look-end.ensures.bounds t h n w

pub returns-clause-reads : goal.returns-clause-reads
returns-clause-reads g c =
    record { list = c.look-end.ensures.list; reads = c.look-end.ensures.reads; goes = c.look-end.ensures.goes; later = c.look-end.ensures.later }
