use Rattle.gate_cases.proofs.Compiled.{same_compiled}
use Rattle.gate_cases.proofs.callers.judge_two_rounds.Goals as goal

pub round-requires-clause-compiled : goal.round-requires-clause-compiled
round-requires-clause-compiled g c κs _ =
    same_compiled c.args.plan c.in_ok-areas.areas.plan c.in_ok-areas.ensures.areas c.requires.compiled

pub round-requires-2-clause-compiled : goal.round-requires-2-clause-compiled
round-requires-2-clause-compiled g c κs _ =
    same_compiled c.args.plan c.in_ok-areas.areas.plan c.in_ok-areas.ensures.areas c.requires.compiled
