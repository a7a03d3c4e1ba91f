use Rattle.verdict_core.proofs.Items.{some_verdict}
use Rattle.verdict_core.proofs.MessageNames.{names_messages}
use Rattle.verdict_core.proofs.Naming.{names_down}
use Rattle.verdict_core.specs.Verdicts.{verdict_of}
use Rattle.verdict_core.proofs.laws.drops_are_named.Goals as goal

pub returns-clause-down : goal.returns-clause-down
returns-clause-down c = λ t i lawful. names_down t i (verdict_of t i) lawful (some_verdict t i)

pub returns-clause-messages : goal.returns-clause-messages
returns-clause-messages c = λ t i lawful. names_messages t i (verdict_of t i) lawful (some_verdict t i)
