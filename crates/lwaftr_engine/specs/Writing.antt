-- What a run writes, as a log of steps of its three outputs: done whole, or to a front.
use Rattle.std.specs.Prelude.{List, ◌⊎◌}
use Rattle.output_journal.specs.Log as log
use Rattle.lwaftr_engine.specs.Words.{Contents, OutputNames, RunJob, Step, Written, file_head, initial_text, opening_log}

abbrev pub outputs_of : RunJob → OutputNames
outputs_of run = record { packets = run.output; verdicts = run.verdicts; versions = run.versions }

-- these steps were done to a run's outputs, and nothing else
abbrev pub Did : RunJob → List Step → Contents → Contents → Type 0
Did run steps old new = log.Did (outputs_of run) steps old new

-- the first few of them were
abbrev pub DidFront : RunJob → List Step → Contents → Contents → Type 0
DidFront run steps old new = log.DidFront (outputs_of run) steps old new

-- these were done, and then those
abbrev pub DidBoth : RunJob → List Step → List Step → Contents → Contents → Type 0
DidBoth run steps others old new = (between : Contents) × Did run steps old between × Did run others between new

-- a front of these was done; or all of them, a round went well, and a front of the others was done
abbrev pub BreaksLast : RunJob → List Step → Type 0 → List Step → Contents → Contents → Type 0
BreaksLast run steps Well others old new =
    DidFront run steps old new ⊎ (Well × ((between : Contents) × Did run steps old between × DidFront run others between new))

-- the outputs are opened: the header of the capture is written, and the line of the first table
abbrev pub opening_steps : RunJob → Written → List Step
opening_steps run written = opening_log (file_head written) (initial_text run.table)
