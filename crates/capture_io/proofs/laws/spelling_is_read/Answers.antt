use Rattle.capture_io.proofs.GrammarLemmas.{read_spelled}
use Rattle.capture_io.proofs.SpellingLemmas.{each_back}
use Rattle.capture_io.proofs.laws.spelling_is_read.Goals as goal

pub returns-clause-only : goal.returns-clause-only
returns-clause-only c = read_spelled

pub returns-clause-each : goal.returns-clause-each
returns-clause-each c = each_back
