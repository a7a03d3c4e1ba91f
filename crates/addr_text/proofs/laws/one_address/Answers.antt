use Rattle.addr_text.proofs.Bytes.{one_number}
use Rattle.addr_text.proofs.Grammar.{one_v6}
use Rattle.addr_text.proofs.laws.one_address.Goals as goal

pub returns-clause-v4 : goal.returns-clause-v4
returns-clause-v4 c = one_number

pub returns-clause-v6 : goal.returns-clause-v6
returns-clause-v6 c = one_v6
