-- The two halves of sixteen bytes.
use Rattle.aftr_base.proofs.NumberLemmas.{halves_of_16}
use Rattle.aftr_base.proofs.numbers.be128.Goals as goal

pub returns : goal.returns
returns c = rw (c.from.ensures, c.be64.ensures, c.from-2.ensures, c.be64-2.ensures) (halves_of_16 _ _ c.requires)
