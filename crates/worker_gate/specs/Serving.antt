-- What a worker is between two draws, and what its calls leave. All of it is ours.
use Rattle.std.specs.Prelude.{◌≡◌, ℕ, ◌+◌, ◌-◌, ◌<◌, ◌≤◌, List, [], ◌∷◌, ◌++◌, All, length, map}
use Rattle.binding_rules.specs.Tables.{BindingTable}
use Rattle.binding_rules.specs.declared.settings.Softwire.{Softwire}
use Rattle.ip_codec.specs.declared.items.Item.{Item}
use Rattle.swap_core.specs.Plans.{Tables, limit}
use Rattle.swap_core.specs.States.{consecutive}
use Rattle.swap_core.specs.declared.actors.ActorState.TheVariants.{Idle}
use Rattle.area_swap.specs.declared.answers.Seen.{Seen}
use Rattle.area_swap.specs.declared.board.View.{View}
use Rattle.area_swap.specs.Reading.{OnlyReads}
use Rattle.area_swap.specs.Rule.{IsDrawnBy, Moment}
use Rattle.area_swap.specs.Values.{AreasValue, SeatValue, HoldsOne, IsOf, MayDraw}
use Rattle.area_swap.specs.Views.{IsUpTo, acting, held_table, held_version}
use Rattle.table_words.specs.Layout.{IsCompiled, AreCompiled}
use Rattle.verdict_core.specs.declared.verdicts.Verdict.{Verdict}
use Rattle.worker_gate.specs.declared.outcomes.Outcome.{Outcome}
use Rattle.worker_gate.specs.declared.outcomes.Stop.{Stop}
use Rattle.worker_gate.specs.declared.outcomes.Stop.TheVariants as stop
use Rattle.worker_gate.specs.declared.worker.Worker.{Worker}
use Rattle.worker_gate.specs.Outcomes.{draw_of, Ascends, IsJudged, asking}

-- Whatever word the seat's next reading finds, so many records were drawn by then.
abbrev pub MustReach : View → ℕ → Type 0
MustReach v next = (now : Seen) → IsUpTo v.seen now → All (IsDrawnBy now) v.actor.draws → next ≤ now.records

-- A worker of these areas between two draws: the numbers of its draws to come are from `next` to below `end`, and there is room
-- for their outcomes.
pub record CanServe (areas : AreasValue) (start end : ℕ) (w : Worker) : Type 0 where
  pub its_areas : IsOf areas w.seat
  pub may_draw : MayDraw w.seat.known
  pub reached : MustReach w.seat.known w.next
  pub from : start ≤ w.next
  pub until : w.next ≤ end
  pub room : length w.outcomes.items + (end - w.next) ≤ w.outcomes.room

-- These outcomes are behind those that the worker had, and are those of its seat's new draws, which have ascending numbers from
-- `next` on; each is judged under its own version. Whoever judges reads the areas. The first of the items is that of the record
-- with the number `start`.
pub record HasServed (p : Tables) (items : List Item) (start : ℕ) (v w : Worker) : Type 0 where
  pub news : List Outcome
  pub outcomes : w.outcomes.items ≡ v.outcomes.items ++ news
  pub draws : w.seat.known.actor.draws ≡ v.seat.known.actor.draws ++ map draw_of news
  pub ascending : Ascends v.next news w.next
  pub judged : All (IsJudged p items start) news
  pub same_room : w.outcomes.room ≡ v.outcomes.room
  pub same_share : w.seat.known.share ≡ v.seat.known.share
  pub later : IsUpTo v.seat.known.seen w.seat.known.seen
  pub reads : v.seat.known.reads + asking items start (map draw_of news) ≤ w.seat.known.reads

-- All records below the end were drawn, or the version in force allows no record more and is not at the end.
abbrev pub IsStopped : Stop → ℕ → View → Type 0
IsStopped stop.End end v = end ≤ v.seen.records
IsStopped (stop.Hold most) end v = (limit v.plan v.seen.version ≡ most) × (v.seen.records ≡ most) × (most < end)

-- So the worker's last reading of the version word said, by which all its draws were made.
pub record HasEnded (why : Stop) (end : ℕ) (v : View) : Type 0 where
  pub stopped : IsStopped why end v
  pub drawn : All (IsDrawnBy v.seen) v.actor.draws

-- The seat holds the version of its last reading, at a moment at which the rule of the areas held.
pub record HoldsLast (v : View) : Type 0 where
  pub moment : Moment v
  pub holds : HoldsOne v
  pub in_force : held_version v ≡ v.seen.version

-- The claim was given up, and nothing else has changed since the seat held the version of its last reading: that version is the one
-- that it held last.
pub record HeldLast (v : View) : Type 0 where
  pub held : View
  pub last : HoldsLast held
  pub after : v ≡ acting held Idle

-- the seat holds this version of these areas, whose words are those of a table with these settings
pub record IsHolding (areas : AreasValue) (version : ℕ) (settings : Softwire) (s : SeatValue) : Type 0 where
  pub its_areas : IsOf areas s
  pub holds : HoldsOne s.known
  pub held : held_version s.known ≡ version
  pub compiled : AreCompiled (held_table s.known)
  pub has_settings : (t : BindingTable) → IsCompiled t (held_table s.known) → settings ≡ t.softwire

-- the outcome of one draw is put down, and its item is judged
pub record IsPutDown (p : Tables) (items : List Item) (start number version : ℕ) (v w : Worker) : Type 0 where
  pub verdict : Verdict
  pub outcomes : w.outcomes.items ≡ v.outcomes.items ++ (record { number = number; version = version; verdict = verdict }) ∷ []
  pub judged : IsJudged p items start (record { number = number; version = version; verdict = verdict })
  pub same_room : w.outcomes.room ≡ v.outcomes.room
  pub same_next : w.next ≡ v.next
  pub only_reads : OnlyReads v.seat w.seat
  pub reads : v.seat.known.reads + asking items start ((number, version) ∷ []) ≤ w.seat.known.reads

-- the outcomes of so many draws in a row are put down, and their items are judged
pub record ArePutDown (p : Tables) (items : List Item) (start first count version : ℕ) (v w : Worker) : Type 0 where
  pub news : List Outcome
  pub outcomes : w.outcomes.items ≡ v.outcomes.items ++ news
  pub draws : map draw_of news ≡ consecutive first count version
  pub ascending : Ascends first news (first + count)
  pub judged : All (IsJudged p items start) news
  pub same_room : w.outcomes.room ≡ v.outcomes.room
  pub same_next : w.next ≡ v.next
  pub only_reads : OnlyReads v.seat w.seat
  pub reads : v.seat.known.reads + asking items start (map draw_of news) ≤ w.seat.known.reads
