-- The two halves of eight bytes.
use Rattle.aftr_base.proofs.NumberLemmas.{halves_of_8}
use Rattle.aftr_base.proofs.numbers.be64.Goals as goal

pub returns : goal.returns
returns c = rw (c.from.ensures, c.be32.ensures, c.from-2.ensures, c.be32-2.ensures) (halves_of_8 _ _ c.requires)
