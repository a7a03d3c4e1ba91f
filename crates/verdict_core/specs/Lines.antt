-- The lines of a judgement: conditions in an order, of which the first true one decides.
use Rattle.std.specs.Prelude.{Bool, true, false, List, [], ◌∷◌, Option, Some, None, if◌then◌else◌}
use Rattle.verdict_core.specs.declared.verdicts.Verdict.{Verdict}

-- what a line does with a packet: it stops it, or lets it pass
pub data Kind : Type 0 where
  Stopping : Kind
  Passing : Kind

-- a condition, what kind of line it is, and the verdict where it is the first whose condition is true
pub record Line : Type 0 where
  pub kind : Kind
  pub test : Bool
  pub answer : Verdict

abbrev pub stops : Bool → Verdict → Line
stops test answer = record { kind = Stopping; test = test; answer = answer }

abbrev pub passes : Verdict → Line
passes answer = record { kind = Passing; test = true; answer = answer }

-- what the first line with a true condition answers
abbrev pub verdict_in : List Line → Option Verdict
verdict_in [] = None
verdict_in (line ∷ ls) = if line.test then Some line.answer else verdict_in ls

-- the same, by whether there is such a line
abbrev pub decided : Bool → Verdict → Option Verdict
decided true verdict = Some verdict
decided false verdict = None
