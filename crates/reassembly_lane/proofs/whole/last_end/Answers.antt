use Rattle.reassembly_lane.specs.Lanes.{part_of}
use Rattle.reassembly_lane.proofs.Wholes.{reads_last_new, reads_last_old}
use Rattle.reassembly_lane.proofs.whole.last_end.Goals as goal

pub returns-then-place-parts : goal.returns-then-place-parts
returns-then-place-parts c = reads_last_new c.args.parts.now (part_of c.args.fragment) c.args.place c.requires.sound c.requires.part c.requires.place c.requires.apart c.end.result c.end_unless_more.result c.if-place-parts.true c.end_unless_more.ensures c.end.ensures

pub returns : goal.returns
returns c = reads_last_old c.args.parts.now (part_of c.args.fragment) c.args.place c.requires.sound c.requires.part c.requires.place c.requires.apart c.end_of_part.result c.end_unless_more-2.result c.index-parts-parts.result c.if-place-parts.false c.index-parts-parts.is c.end_unless_more-2.ensures c.end_of_part.ensures
