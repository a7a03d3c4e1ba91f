use Rattle.run_output.proofs.MarkLemmas.{asked_back}
use Rattle.run_output.proofs.limits.is_kept_back.Goals as goal

pub returns-in-Some-clause-error : goal.returns-in-Some-clause-error
returns-in-Some-clause-error c = λ error times sent asked.
    asked_back c.args.limit.now c.in-Some.limiter c.pass.new.self c.pass.result c.args.time c.in-Some.is c.pass.ensures.stands times sent asked
