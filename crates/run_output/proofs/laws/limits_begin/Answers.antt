use Rattle.run_output.proofs.LimitLemmas.{limits_do_begin}
use Rattle.run_output.proofs.laws.limits_begin.Goals as goal

pub returns : goal.returns
returns c = limits_do_begin
