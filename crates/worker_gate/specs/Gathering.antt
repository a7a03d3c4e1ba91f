-- Workers between the passes of a round, and how their outcomes come to the places of their numbers. All of it is ours.
use Rattle.std.specs.Prelude.{◌≡◌, ◌≢◌, ℕ, ◌+◌, ◌<◌, ◌≤◌, ◌⊎◌, ◌==◌, List, ◌++◌, All, length, map, get_or, sum_by, count_by}
use Rattle.std.specs.List.{Contains}
use Rattle.ip_codec.specs.declared.items.Item.{Item}
use Rattle.swap_core.specs.Plans.{Tables}
use Rattle.area_swap.specs.declared.board.View.{View}
use Rattle.area_swap.specs.Values.{AreasValue, SeatValue, IsIdle, IsOf}
use Rattle.area_swap.specs.Views.{IsUpTo}
use Rattle.table_words.specs.Layout.{AreCompiled}
use Rattle.worker_gate.specs.declared.crew.Place.{Place}
use Rattle.worker_gate.specs.declared.crew.Sheet.{Sheet}
use Rattle.worker_gate.specs.declared.worker.Worker.{Worker}
use Rattle.worker_gate.specs.Crews.{IsPlaced, outcome_at}
use Rattle.worker_gate.specs.Outcomes.{draw_of, Ascends, IsJudged, asking}
use Rattle.worker_gate.specs.Serving.{CanServe}

-- A worker between two passes of a round: what its seat drew since it was split off is what it put down.
pub record IsAtHand (areas : AreasValue) (start end : ℕ) (w : Worker) : Type 0 where
  pub work : CanServe areas start end w
  pub idle : IsIdle w.seat.known
  pub draws : w.seat.known.actor.draws ≡ map draw_of w.outcomes.items
  pub ascending : Ascends start w.outcomes.items w.next

-- each outcome is judged, and the areas were read for it where its item asks the table
pub record HasJudged (p : Tables) (items : List Item) (start : ℕ) (w : Worker) : Type 0 where
  pub judged : All (IsJudged p items start) w.outcomes.items
  pub reads : asking items start w.seat.known.actor.draws ≤ w.seat.known.reads

-- a worker of a round between two passes, under tables that are compiled
pub record IsOfRound (areas : AreasValue) (items : List Item) (start end : ℕ) (w : Worker) : Type 0 where
  pub at_hand : IsAtHand areas start end w
  pub judged : HasJudged areas.plan items start w
  pub compiled : All AreCompiled areas.plan.tables

-- an idle seat of these areas
pub record IsIdleSeat (areas : AreasValue) (seat : SeatValue) : Type 0 where
  pub its_areas : IsOf areas seat
  pub idle : IsIdle seat.known

-- what no pass changes of a worker: its share, and for how many outcomes it has room
abbrev pub hand_of : Worker → ℕ × ℕ
hand_of w = (w.seat.known.share, w.outcomes.room)

-- the workers' part of the whole share
abbrev pub shares : List Worker → ℕ
shares workers = sum_by (λ (w : Worker). w.seat.known.share) workers

abbrev pub HasRoom : ℕ → Worker → Type 0
HasRoom room w = room ≤ w.outcomes.room

-- The places of the first so many outcomes of a sheet, which have these numbers, are those of their numbers, and no other place
-- changed.
abbrev pub AreNoted : ℕ → ℕ → List ℕ → ℕ → List Place → List Place → Type 0
AreNoted start sheet numbers count before after =
    (k : ℕ) (d : Place) → k < length before
    → (((m : ℕ) → m < count → get_or numbers m 0 ≢ start + k) × (get_or after k d ≡ get_or before k d))
    ⊎ ((m : ℕ) × (m < count) × (get_or after k d ≡ record { sheet = sheet; index = m }) × (get_or numbers m 0 ≡ start + k))

-- at this place stands the outcome of a number, which is of one of these draws
pub record IsFound (p : Tables) (items : List Item) (start : ℕ) (draws : List (ℕ × ℕ)) (sheets : List Sheet) (n : ℕ) (place : Place) : Type 0 where
  pub placed : IsPlaced sheets place
  pub number_is : (outcome_at sheets place).number ≡ n
  pub drawn : Contains draws (draw_of (outcome_at sheets place))
  pub judged : IsJudged p items start (outcome_at sheets place)

-- The seat has these draws more, and each number of the round has its place, or none of the draws has that number.
pub record Gathered (p : Tables) (items : List Item) (start end : ℕ) (v w : View) (sheets : List Sheet) (places : List Place) : Type 0 where
  pub news : List (ℕ × ℕ)
  pub draws : w.actor.draws ≡ v.actor.draws ++ news
  pub inside : All (λ (d : ℕ × ℕ). (start ≤ d.0) × (d.0 < end)) news
  pub found : (k : ℕ) (d : Place) → k < length places
      → (count_by (λ (x : ℕ × ℕ). x.0 == start + k) news ≡ 0) ⊎ IsFound p items start news sheets (start + k) (get_or places k d)
  pub later : IsUpTo v.seen w.seen
  pub reads : v.reads + asking items start news ≤ w.reads
