-- A round that one worker judges as a whole, by a seat that holds the version of its records. All of it is ours.
use Rattle.std.specs.Prelude.{◌≡◌, ℕ, ◌+◌, ◌-◌, ◌≤◌, List, All, length, map}
use Rattle.std.specs.List.{range_with_len, Contains}
use Rattle.ip_codec.specs.declared.items.Item.{Item}
use Rattle.swap_core.specs.Plans.{Tables}
use Rattle.swap_core.specs.States.{consecutive}
use Rattle.area_swap.specs.declared.board.View.{View}
use Rattle.area_swap.specs.Views.{IsUpTo}
use Rattle.worker_gate.specs.declared.crew.Place.{Place}
use Rattle.worker_gate.specs.declared.outcomes.Outcome.{Outcome}
use Rattle.worker_gate.specs.Outcomes.{draw_of, IsJudged, asking}

-- the place of an outcome in the sheet with this number
abbrev pub place_in : ℕ → ℕ → Place
place_in sheet index = record { sheet = sheet; index = index }

-- There is one outcome for each number from `start` to below `end`, ascending. Each is of one of these draws, and judged under that
-- draw's version. Every form of a round gives this.
pub record AreOutcomes (p : Tables) (items : List Item) (start end : ℕ) (draws : List (ℕ × ℕ)) (all : List Outcome) : Type 0 where
  pub numbers : map (λ (o : Outcome). o.number) all ≡ range_with_len start (end - start)
  pub drawn : All (λ (o : Outcome). Contains draws (draw_of o)) all
  pub judged : All (IsJudged p items start) all

-- The records of a round, from `start` on, are judged under the version that the seat held. The seat read a word of the table for
-- each item that asks the table, at least.
pub record HasJudgedWhole (p : Tables) (items : List Item) (start version : ℕ) (v w : View) (all : List Outcome) : Type 0 where
  pub outcomes : AreOutcomes p items start (start + length items) (consecutive start (length items) version) all
  pub versions : All (λ (o : Outcome). o.version ≡ version) all
  pub reads : v.reads + asking items start (consecutive start (length items) version) ≤ w.reads
  pub same_share : w.share ≡ v.share
  pub later : IsUpTo v.seen w.seen
