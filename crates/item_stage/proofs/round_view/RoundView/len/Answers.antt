use Rattle.std.proofs.Common.{◌∙◌}
use Rattle.item_stage.proofs.MarkLemmas.{count_is}
use Rattle.item_stage.proofs.round_view.RoundView.len.Goals as goal

pub returns : goal.returns
returns c =
    let inside = c.self.inside in
    c.len.ensures ∙ count_is inside.form inside.records.now inside.marks.now.slots c.args.self.now c.self.view_is c.self.invariant
