use Rattle.std.specs.Prelude.{IsOk}
use Rattle.std.proofs.Common.{arith, refl, rules}
use Rattle.run_turns.proofs.JudgedTurns.{when_ok, passed_of}
use Rattle.run_turns.proofs.passing.judge_held.Goals as goal

pub returns-clause-passed : goal.returns-clause-passed
returns-clause-passed g c refused =
    let done = c.judge_and_render-done in
    let nothing = c.end-free.ensures.nothing in
    let is : IsOk done.result = search rules in
    passed_of refl refl refl c.records.ensures c.items-items.ensures c.of-judge.ensures
    (when_ok done.result is done.ensures.passed) (when_ok done.result is done.ensures.within)
    (omega (arith, nothing.same_reads)) done.ensures.rate
