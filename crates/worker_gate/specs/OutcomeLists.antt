-- The outcomes that a worker puts down. All of it is ours.
use Rattle.std.specs.Prelude.{◌≡◌, ℕ, List, [], ◌∷◌, ◌++◌}
use Rattle.binding_rules.specs.Tables.{BindingTable}
use Rattle.ip_codec.specs.declared.items.Item.{Item}
use Rattle.table_words.specs.Layout.{IsCompiled}
use Rattle.verdict_core.specs.Verdicts.{verdict_of}
use Rattle.verdict_core.specs.declared.verdicts.Verdict.{Verdict}
use Rattle.worker_gate.specs.declared.outcomes.Outcome.{Outcome}

-- the outcomes in the order in which they were put down, and for how many there is room
pub record OutcomeListValue : Type 0 where
  pub items : List Outcome
  pub room : ℕ

abbrev pub number_of : Outcome → ℕ
number_of o = o.number

-- one outcome more, with this number and version, and the verdict on this item under each table that has these words
pub record HasPutJudged (number version : ℕ) (i : Item) (words : List ℕ) (v w : OutcomeListValue) : Type 0 where
  pub verdict : Verdict
  pub items : w.items ≡ v.items ++ (record { number = number; version = version; verdict = verdict }) ∷ []
  pub value : (t : BindingTable) → IsCompiled t words → verdict ≡ verdict_of t i
  pub same_room : w.room ≡ v.room
