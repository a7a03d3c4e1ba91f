use Rattle.std.proofs.Common.{sym, ◌∙◌, ap}
use Rattle.traffic_gen.specs.Drawing.{turned}
use Rattle.traffic_gen.proofs.Captures.{one_turn, one_more}
use Rattle.traffic_gen.proofs.traffic.capture_of.Goals as goal

pub records-preserved : goal.records-preserved
records-preserved c =
    let turn = c.turned-state.ensures ∙ ap turned c.records.invariant.0 ∙ sym (one_turn c.args.seed c.records.number) in
    (turn, one_more c.args.seed c.records.number c.turned-state.result c.drawn.result c.records.list.items c.push_record.new.list.items turn c.drawn.ensures.value c.records.invariant.1 c.in_ok-push_record.ensures)
