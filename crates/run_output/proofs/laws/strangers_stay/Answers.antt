use Rattle.run_output.proofs.StrangerLemmas.{outputs_stay, outputs_stay_unlimited, treated_alike}
use Rattle.run_output.proofs.laws.strangers_stay.Goals as goal

pub returns-clause-alike : goal.returns-clause-alike
returns-clause-alike c = treated_alike

pub returns-clause-outputs : goal.returns-clause-outputs
returns-clause-outputs c = outputs_stay

pub returns-clause-unlimited : goal.returns-clause-unlimited
returns-clause-unlimited c = outputs_stay_unlimited
