-- The state of the machine, and the small changes of it that the kinds of step make.
use Rattle.std.specs.Prelude.{◌≡◌, ℕ, ◌+◌, ◌-◌, ◌%◌, List, [], ◌∷◌, ◌++◌, length, slice_index, slice_index_or, slice_set, replicate, map}
use Rattle.std.specs.List.{range_with_len}
use lib.ListN.{get_elem?}
use mathlib.Core.Option.{some}
use Rattle.swap_core.specs.Plans.{Tables, table, width}
use Rattle.swap_core.specs.declared.actors.Actor.{Actor}
use Rattle.swap_core.specs.declared.actors.ActorState.{ActorState}
use Rattle.swap_core.specs.declared.actors.ActorState.TheVariants.{Idle, Looked, Asks, Holds}
use Rattle.swap_core.specs.declared.actors.DeskState.{DeskState}
use Rattle.swap_core.specs.declared.actors.DeskState.TheVariants.{Resting, Writing}

-- The version is the number of the table in force, which stands in area `version mod 2`; the other area is the spare
-- one. An area's count is how many actors have claimed it. A point is the number of records drawn when a table came
-- into force.
pub record CoreState : Type 0 where
  pub plan : Tables
  pub version : ℕ
  pub records : ℕ
  pub counts : List ℕ
  pub areas : List (List ℕ)
  pub actors : List Actor
  pub desk : DeskState
  pub points : List ℕ

abbrev pub count_of : CoreState → ℕ → ℕ
count_of c a = slice_index c.counts a

abbrev pub area : CoreState → ℕ → List ℕ
area c a = slice_index_or c.areas a []

abbrev pub spare : CoreState → ℕ
spare c = (c.version + 1) % 2

abbrev pub next_table : CoreState → List ℕ
next_table c = table c.plan (c.version + 1)

-- actor number `who` is x
abbrev pub IsActor : CoreState → ℕ → Actor → Type 0
IsActor c who x = get_elem? c.actors who ≡ some x

abbrev pub newcomer : Actor
newcomer = record { state = Idle; draws = [] }

-- the words at the front of a row, and zeros after them
abbrev pub row_of : ℕ → List ℕ → List ℕ
row_of size words = words ++ replicate (size - length words) 0

-- version 0 in area 0, no records drawn, all idle
abbrev pub opening : Tables → ℕ → CoreState
opening plan actors =
    record {
      plan = plan;
      version = 0;
      records = 0;
      counts = 0 ∷ 0 ∷ [];
      areas = row_of (width plan) (table plan 0) ∷ replicate (width plan) 0 ∷ [];
      actors = replicate actors newcomer;
      desk = Resting;
      points = [];
    }

abbrev pub in_state : Actor → ActorState → Actor
in_state x s = record { state = s; draws = x.draws }

abbrev pub with_actor : CoreState → ℕ → Actor → CoreState
with_actor c who x = record c { actors = slice_set c.actors who x }

abbrev pub with_count : CoreState → ℕ → ℕ → CoreState
with_count c a n = record c { counts = slice_set c.counts a n }

abbrev pub with_desk : CoreState → DeskState → CoreState
with_desk c d = record c { desk = d }

-- the actor x has read the version
abbrev pub looked : CoreState → ℕ → Actor → CoreState
looked c who x = with_actor c who (in_state x (Looked c.version))

-- the actor x has raised the count of area a
abbrev pub entered : CoreState → ℕ → Actor → ℕ → CoreState
entered c who x a = with_count (with_actor c who (in_state x (Asks a))) a (count_of c a + 1)

-- the actor x has found the version in force to stand in area a, for which it asks
abbrev pub confirmed : CoreState → ℕ → Actor → ℕ → CoreState
confirmed c who x a = with_actor c who (in_state x (Holds a c.version))

-- the actor x has given up its claim on area a
abbrev pub gone : CoreState → ℕ → Actor → ℕ → CoreState
gone c who x a = with_count (with_actor c who (in_state x Idle)) a (count_of c a - 1)

-- the next number belongs to the actor x, under the version in force
abbrev pub with_draw : CoreState → Actor → Actor
with_draw c x = record { state = x.state; draws = x.draws ++ (c.records, c.version) ∷ [] }

abbrev pub drawn : CoreState → ℕ → Actor → CoreState
drawn c who x = record (with_actor c who (with_draw c x)) { records = c.records + 1 }

-- so many numbers in a row, from this one on, each under the version
abbrev pub consecutive : ℕ → ℕ → ℕ → List (ℕ × ℕ)
consecutive first count version = map (λ (number : ℕ). (number, version)) (range_with_len first count)

-- the next numbers, so many, belong to the actor x, under the version in force
abbrev pub several_drawn : CoreState → ℕ → Actor → ℕ → CoreState
several_drawn c who x count =
    record (with_actor c who (record { state = x.state; draws = x.draws ++ consecutive c.records count c.version })) { records = c.records + count }

-- word j of the next table stands in the spare area
abbrev pub written : CoreState → ℕ → CoreState
written c j =
    record c {
      areas = slice_set c.areas (spare c) (slice_set (area c (spare c)) j (slice_index (next_table c) j));
      desk = Writing (j + 1);
    }

-- the next table is in force, from the next record on
abbrev pub published : CoreState → CoreState
published c = record c { version = c.version + 1; points = c.points ++ c.records ∷ []; desk = Resting }

-- one actor more, which is idle and has drawn nothing
abbrev pub joined_by_newcomer : CoreState → CoreState
joined_by_newcomer c = record c { actors = c.actors ++ newcomer ∷ [] }

-- the draws of the actor y, number `from`, stand behind those of the actor x, number `into`
abbrev pub merged : CoreState → ℕ → Actor → ℕ → Actor → CoreState
merged c into x from y =
    with_actor (with_actor c from newcomer) into (record { state = x.state; draws = x.draws ++ y.draws })
