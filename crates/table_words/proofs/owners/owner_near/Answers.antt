use Rattle.std.proofs.Common.{arith}
use Rattle.table_words.proofs.owners.owner_near.Goals as goal

pub owner_alike-requires-clause-alike : goal.owner_alike-requires-clause-alike
owner_alike-requires-clause-alike g c = c.requires.alike (omega (arith, c.if-spot-eq1.false))
