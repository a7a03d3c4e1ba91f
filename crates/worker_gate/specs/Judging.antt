-- Records that are judged one by one, by a seat that holds a version. All of it is ours.
use Rattle.std.specs.Prelude.{◌≡◌, ℕ, ◌+◌, ◌≤◌, List, All, length, map}
use Rattle.binding_rules.specs.Tables.{BindingTable}
use Rattle.ip_codec.specs.declared.items.Item.{Item}
use Rattle.swap_core.specs.Plans.{Tables, table}
use Rattle.swap_core.specs.States.{consecutive}
use Rattle.table_words.specs.Layout.{IsCompiled}
use Rattle.verdict_core.specs.Fitting.{AsksTable, Fits, HasRoom}
use Rattle.verdict_core.specs.Verdicts.{verdict_of}
use Rattle.worker_gate.specs.declared.outcomes.Outcome.{Outcome}
use Rattle.worker_gate.specs.Holders.{HeldValue}
use Rattle.worker_gate.specs.Outcomes.{draw_of, IsJudged, asking}

-- The outcome has this number and version, and the verdict on this item under that version's table. The verdict fits the item, and names
-- sizes that every link can carry.
pub record IsOutcome (p : Tables) (number version : ℕ) (i : Item) (o : Outcome) : Type 0 where
  pub its_number : o.number ≡ number
  pub its_version : o.version ≡ version
  pub value : (t : BindingTable) → IsCompiled t (table p version) → o.verdict ≡ verdict_of t i
  pub fits : Fits i o.verdict
  pub room : HasRoom o.verdict

-- Some words were read, and nothing else changed.
pub record HasRead (v w : HeldValue) : Type 0 where
  pub rest : w ≡ record v { known = record v.known { reads = w.known.reads } }
  pub rises : v.known.reads ≤ w.known.reads

-- One item is judged. A word was read if the item asks the table.
pub record HasJudgedOne (number : ℕ) (i : Item) (v w : HeldValue) (o : Outcome) : Type 0 where
  pub outcome : IsOutcome v.areas.plan number v.version i o
  pub read : HasRead v w
  pub asks : AsksTable i → v.known.reads + 1 ≤ w.known.reads

-- The first records of a round, from the number `start` on, are judged in their order under the version that the judge holds. The first
-- of the items is that of the record with that number.
pub record HasJudgedRun (items : List Item) (start : ℕ) (v w : HeldValue) (all : List Outcome) : Type 0 where
  pub draws : map draw_of all ≡ consecutive start (length all) v.version
  pub judged : All (IsJudged v.areas.plan items start) all
  pub read : HasRead v w
  pub reads : v.known.reads + asking items start (map draw_of all) ≤ w.known.reads
