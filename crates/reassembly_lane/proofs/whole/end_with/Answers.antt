use Rattle.reassembly_lane.specs.Lanes.{part_of}
use Rattle.reassembly_lane.proofs.Wholes.{reads_unfinished, reads_whole}
use Rattle.reassembly_lane.proofs.whole.end_with.Goals as goal

pub returns-then-size-fragment : goal.returns-then-size-fragment
returns-then-size-fragment c = reads_whole c.args.parts.now (part_of c.args.fragment) c.args.place c.requires.sound c.requires.part c.requires.place c.requires.apart c.in_ok-end.end c.args.size c.in_ok-end.ensures c.requires.size c.if-size-fragment.true

pub returns-else-size-fragment : goal.returns-else-size-fragment
returns-else-size-fragment c = reads_unfinished c.args.parts.now (part_of c.args.fragment) c.args.place c.requires.sound c.requires.part c.requires.place c.requires.apart c.in_ok-end.end c.args.size c.in_ok-end.ensures c.requires.size c.if-size-fragment.false
