use Rattle.std.proofs.Common.{sym, ◌∙◌}
use Rattle.reassembly_lane.specs.Lanes.{part_of}
use Rattle.reassembly_lane.proofs.Near.{no_repeat_past, repeat_read}
use Rattle.reassembly_lane.proofs.context.has_repeat.Goals as goal

pub returns-then-place-parts : goal.returns-then-place-parts
returns-then-place-parts c = sym (no_repeat_past c.args.parts.now (part_of c.args.fragment) c.args.place c.requires.sound c.requires.place c.if-place-parts.true)

pub returns : goal.returns
returns c = c.is_repeat.ensures ∙ repeat_read c.args.parts.now (part_of c.args.fragment) c.args.place c.index-parts-place.result c.requires.sound c.requires.place c.if-place-parts.false c.index-parts-place.is
