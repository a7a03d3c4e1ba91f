use Rattle.binding_file.proofs.Trees.{text_answer}
use Rattle.binding_file.proofs.Unique.{one_answer}
use Rattle.binding_file.proofs.laws.one_table.Goals as goal

pub returns-clause-answer : goal.returns-clause-answer
returns-clause-answer c = one_answer c.one_address.ensures.v6 c.one_address.ensures.v4

pub returns-clause-text : goal.returns-clause-text
returns-clause-text c = text_answer
