use Rattle.std.proofs.Common.{length, ◌∙◌}
use Rattle.table_costs.specs.Costs.{marks}
use Rattle.table_costs.proofs.FewerMarks.{piece_counted}
use Rattle.table_costs.proofs.glances.count_marks.Goals as goal

pub pieces-preserved : goal.pieces-preserved
pieces-preserved c =
    piece_counted c.from-count.result c.pieces.count (length c.args.text.now) (marks c.args.text.now) c.split_at.result.0.now c.split_at.result.1.now c.pieces.rest.now
    c.split_at.ensures.by_index.0 (c.from-count.ensures ∙ c.count_few.ensures) c.pieces.invariant.0 c.pieces.invariant.1
