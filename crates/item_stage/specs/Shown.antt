-- What a reading of one record shows.
use Rattle.ip_codec.specs.Packet4.{packet4}
use Rattle.ip_codec.specs.Seen.{seen}
use Rattle.item_stage.specs.Alone.{Alone, Inside, Settled, Fragment, Ready, Downstream, CutPart, Carries}
use Rattle.item_stage.specs.Fragments.{down_key, inner_key, outer_key, part_of4, part_of6}
use Rattle.item_stage.specs.declared.alone.Alone.{Alone as ReadAlone}
use Rattle.item_stage.specs.declared.alone.Alone.TheVariants as alone
use Rattle.item_stage.specs.declared.alone.Inside.{Inside as ReadInside}
use Rattle.item_stage.specs.declared.alone.Inside.TheVariants as inside

abbrev pub shown_inside : ReadInside → Inside
shown_inside (inside.Settled item) = Settled (seen item)
shown_inside (inside.Fragment outer packet) = Fragment outer (inner_key outer (packet4 packet.view)) (part_of4 (packet4 packet.view))

abbrev pub shown : ReadAlone → Alone
shown (alone.Ready item) = Ready (seen item)
shown (alone.Downstream packet) = Downstream (down_key (packet4 packet.view)) (part_of4 (packet4 packet.view))
shown (alone.Cut cut) = CutPart cut.outer (outer_key cut.outer cut.id) (part_of6 cut.offset cut.more cut.next cut.body.now)
shown (alone.Carries inside) = Carries (shown_inside inside)
