-- What the answer of a context says of it.
use Rattle.std.specs.Prelude.{None}
use Rattle.reassembly_lane.specs.declared.context.Turn.{Turn}
use Rattle.reassembly_lane.specs.declared.context.Turn.TheVariants.{Stays, Ends}
use Rattle.reassembly_lane.specs.Contexts.{Partial, Outcome, staying}

abbrev pub outcome : Turn → Partial → Outcome
outcome (Stays answer) partial = staying partial answer
outcome (Ends answer) partial = record { left = None; answer = answer }
