use Rattle.run_output.proofs.PassLemmas.{has_counted}
use Rattle.run_output.proofs.counting.count_part.Goals as goal

pub returns : goal.returns
returns c = has_counted c.args.part.now c.args.totals.now c.add_counted.new.totals c.add_counted.ensures
