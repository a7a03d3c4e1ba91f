use Rattle.run_output.proofs.JoinLemmas.{load_lines_are_joined}
use Rattle.run_output.proofs.laws.load_lines_join.Goals as goal

pub returns : goal.returns
returns c = load_lines_are_joined
