use Rattle.fragmenter.proofs.PieceLemmas.{one4}
use Rattle.fragmenter.proofs.laws.one_cut4.Goals as goal

pub returns : goal.returns
returns c = one4
