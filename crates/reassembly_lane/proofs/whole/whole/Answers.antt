use Rattle.std.proofs.Common.{◌≤◌, ◌∙◌, arith}
use Rattle.reassembly_lane.specs.Lanes.{part_of}
use Rattle.reassembly_lane.proofs.Wholes.{begins_at_0, end_small, reads_datagram, reads_long}
use Rattle.reassembly_lane.proofs.whole.whole.Goals as goal

pub overflow_add-from : goal.overflow_add-from
overflow_add-from c =
    let small : c.args.end ≤ 65535 = end_small c.args.parts.now (part_of c.args.fragment) c.args.place c.requires.sound c.requires.part c.requires.place c.requires.apart c.args.end c.requires.whole in
    omega arith

pub returns-then-from-end-gt-LONGEST : goal.returns-then-from-end-gt-LONGEST
returns-then-from-end-gt-LONGEST c = reads_long c.args.parts.now (part_of c.args.fragment) c.args.place c.requires.sound c.requires.part c.requires.place c.requires.apart c.args.end c.requires.whole c.from.result (c.from.ensures ∙ c.first_extra.ensures) c.if-from-end-gt-LONGEST.true

pub first_head-requires-clause-first : goal.first_head-requires-clause-first
first_head-requires-clause-first c = begins_at_0 c.args.parts.now (part_of c.args.fragment) c.args.place c.requires.sound c.requires.part c.requires.place c.requires.apart c.args.end c.requires.whole

pub returns : goal.returns
returns c = reads_datagram c.args.parts.now (part_of c.args.fragment) c.args.place c.requires.sound c.requires.part c.requires.place c.requires.apart c.args.end c.requires.whole c.from.result c.in_ok-copy.field-0 c.in_ok-join.field-0 (c.from.ensures ∙ c.first_extra.ensures) c.if-from-end-gt-LONGEST.false (c.in_ok-copy.ensures ∙ c.first_head.ensures) c.in_ok-join.ensures
