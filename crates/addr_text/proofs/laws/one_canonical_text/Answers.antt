use Rattle.addr_text.proofs.Written.{one_text, canonical_spells}
use Rattle.addr_text.proofs.laws.one_canonical_text.Goals as goal

pub returns-clause-one : goal.returns-clause-one
returns-clause-one c = one_text

pub returns-clause-spells : goal.returns-clause-spells
returns-clause-spells c = canonical_spells
