use Rattle.ip_codec.specs.Packet4.{packet4}
use Rattle.reassembly_lane.specs.Lanes.{arrival}
use Rattle.item_stage.proofs.HeadLemmas.{feed_keeps}
use Rattle.item_stage.proofs.turns.feed4.Goals as goal

pub returns-clause-headers : goal.returns-clause-headers
returns-clause-headers g c =
    (feed_keeps g.K.Ord.cmp c.args.row.now c.feed.new.self c.args.lane (arrival c.piece_of.result) c.args.key c.args.at.time c.args.at.number (packet4 c.args.packet.now.view)
    c.in_ok-feed.field-0 c.requires.headers c.args.packet.now.bounded c.piece_of.ensures c.in_ok-feed.ensures).0

pub returns-clause-joined : goal.returns-clause-joined
returns-clause-joined g c =
    (feed_keeps g.K.Ord.cmp c.args.row.now c.feed.new.self c.args.lane (arrival c.piece_of.result) c.args.key c.args.at.time c.args.at.number (packet4 c.args.packet.now.view)
    c.in_ok-feed.field-0 c.requires.headers c.args.packet.now.bounded c.piece_of.ensures c.in_ok-feed.ensures).1
