use Rattle.fragmenter.proofs.PieceLemmas.{one6}
use Rattle.fragmenter.proofs.laws.one_cut6.Goals as goal

pub returns : goal.returns
returns c = one6
