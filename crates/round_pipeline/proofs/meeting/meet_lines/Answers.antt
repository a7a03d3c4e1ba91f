use Rattle.std.proofs.Common.{arith, drop, length, sym, take, ◌++◌, ◌≡◌}
use Rattle.std.proofs.lemmas.Grind.{common_steps}
use Rattle.round_pipeline.proofs.meeting.meet_lines.Goals as goal

pub meet_all-requires-clause-lines : goal.meet_all-requires-clause-lines
meet_all-requires-clause-lines g c = rw (c.as_mut_slice.ensures.value, c.as_mut_slice-2.ensures.value, c.as_mut_slice-3.ensures.value) c.requires.lines

pub returns-clause-met : goal.returns-clause-met
returns-clause-met g c =
    let e : take c.args.reads.now.len (c.meet_all.new.reads ++ drop (length c.meet_all.new.reads) c.args.reads.now.items) ≡ c.meet_all.new.reads = grind (arith, common_steps) in
    let f : take c.args.writes.now.len (c.meet_all.new.writes ++ drop (length c.meet_all.new.writes) c.args.writes.now.items) ≡ c.meet_all.new.writes = grind (arith, common_steps) in
    rw (e, f, sym c.as_mut_slice.ensures.value, sym c.as_mut_slice-2.ensures.value, sym c.as_mut_slice-3.ensures.value) c.meet_all.ensures.met
