-- What a run writes, as a log of steps of its three outputs: done whole, or to a front.
use Rattle.output_journal.specs.Log as log
use Rattle.std.specs.Prelude.{List}
use Rattle.run_turns.specs.Words.{Contents, RunJob, Step}
use Rattle.run_turns.specs.Setups.{outputs_of}

-- these steps were done to a run's outputs, and nothing else
abbrev pub Did : RunJob → List Step → Contents → Contents → Type 0
Did run steps old new = log.Did (outputs_of run) steps old new

-- the first few of them were
abbrev pub DidFront : RunJob → List Step → Contents → Contents → Type 0
DidFront run steps old new = log.DidFront (outputs_of run) steps old new
