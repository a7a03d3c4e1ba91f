use Rattle.std.proofs.Common.{length, arith}
use Rattle.run_output.proofs.PassLemmas.{pass_counted, pass_last}
use Rattle.run_output.proofs.passing.judge_and_render.Goals as goal

pub returns-clause-passed : goal.returns-clause-passed
returns-clause-passed g c =
    pass_last c.one_marking.ensures c.args.round.now c.args.judge.now c.pass_records.new.judge c.args.limit.now c.pass_records.new.limit
    c.pass_records.new.part c.in_ok-pass_records.ensures.begun

pub returns-clause-within : goal.returns-clause-within
returns-clause-within g c =
    pass_counted c.args.round.now (length c.args.round.now.records.now) c.args.judge.now c.pass_records.new.judge c.args.limit.now
    c.pass_records.new.limit c.pass_records.new.part c.in_ok-pass_records.ensures.begun (omega arith)
