use Rattle.std.proofs.Common.{◌∙◌}
use Rattle.reassembly_lane.specs.Lanes.{part_of}
use Rattle.reassembly_lane.proofs.Near.{clash_is_behind}
use Rattle.reassembly_lane.proofs.context.has_clash.Goals as goal

pub returns-else-clashes_in_front : goal.returns-else-clashes_in_front
returns-else-clashes_in_front c = c.clashes_behind.ensures ∙ clash_is_behind c.args.parts.now (part_of c.args.fragment) c.args.place c.requires.sound c.requires.part c.requires.place c.if-clashes_in_front.ensures
