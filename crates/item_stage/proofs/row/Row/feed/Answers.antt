use Rattle.std.proofs.Common.{arith}
use Rattle.reassembly_lane.specs.Lanes.{arrival}
use Rattle.item_stage.proofs.RowLemmas.{row_is}
use Rattle.item_stage.proofs.row.Row.feed.Goals as goal

pub returns : goal.returns
returns g c =
    row_is g.K.Ord.cmp c.self.inside.lanes.items c.args.self.now c.args.lane (arrival c.args.piece) c.in_ok-feed.field-0 c.index_mut.result.now c.feed.new.self
    (omega (arith, c.requires, c.self.invariant)) c.self.view_is c.index_mut.ensures.value c.in_ok-feed.ensures.answer c.in_ok-feed.ensures.ended
