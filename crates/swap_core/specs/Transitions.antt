-- What each kind of step does: one definition for each row of the machine's table.
use Rattle.std.specs.Prelude.{◌≡◌, ℕ, ◌+◌, ◌%◌, ◌==◌, nat_lt, if◌then◌else◌, List, length, slice_index, fold}
use lib.ListN.{get_elem?}
use mathlib.Core.Option as maybe
use Rattle.swap_core.specs.Plans.{table, limit, window}
use Rattle.swap_core.specs.States.{CoreState, count_of, area, spare, next_table, with_desk, looked, entered, confirmed, gone, drawn, written, published}
use Rattle.swap_core.specs.declared.actors.Actor.{Actor}
use Rattle.swap_core.specs.declared.actors.ActorState.{ActorState}
use Rattle.swap_core.specs.declared.actors.ActorState.TheVariants.{Idle, Looked, Asks, Holds}
use Rattle.swap_core.specs.declared.actors.DeskState.{DeskState}
use Rattle.swap_core.specs.declared.actors.DeskState.TheVariants.{Ready, Writing}
use Rattle.swap_core.specs.declared.steps.Step.{Step}
use Rattle.swap_core.specs.declared.steps.Step.TheVariants as step
use Rattle.swap_core.specs.declared.steps.NotNow.{NotNow}
use Rattle.swap_core.specs.declared.steps.NotNow.TheVariants.{Stranger, Phase, Moved, Past, Hold, NoLoad, Later, Claimed}
use Rattle.swap_core.specs.declared.steps.Took.{Took}
use Rattle.swap_core.specs.declared.steps.Took.TheVariants.{Yes, No}

-- the answer of a step, and the state after it
pub record Outcome : Type 0 where
  pub took : Took
  pub core : CoreState

abbrev pub yes : CoreState → ℕ → Outcome
yes after value = record { took = Yes value; core = after }

-- a step that is not taken changes nothing
abbrev pub no : CoreState → NotNow → Outcome
no c cause = record { took = No cause; core = c }

-- from idle: the version is read
abbrev pub look : CoreState → ℕ → Actor → ActorState → Outcome
look c who x Idle = yes (looked c who x) c.version
look c who x _ = no c Phase

-- having looked: the area of that version is claimed
abbrev pub enter : CoreState → ℕ → Actor → ActorState → Outcome
enter c who x (Looked v) = yes (entered c who x (v % 2)) 0
enter c who x _ = no c Phase

-- asking for area a: the version in force is held, if it stands there
abbrev pub confirm : CoreState → ℕ → Actor → ActorState → Outcome
confirm c who x (Asks a) = if c.version % 2 == a then yes (confirmed c who x a) c.version else no c Moved
confirm c who x _ = no c Phase

-- holding version w in area a: one word
abbrev pub read : CoreState → ℕ → ActorState → Outcome
read c place (Holds a w) =
    if nat_lt place (length (table c.plan w)) then yes c (slice_index (area c a) place) else no c Past
read c place _ = no c Phase

-- holding version w: the next number, while w is in force and its limit is not reached
abbrev pub draw : CoreState → ℕ → Actor → ActorState → Outcome
draw c who x (Holds a w) =
    if c.version == w
    then (if c.records == limit c.plan c.version then no c Hold else yes (drawn c who x) c.records)
    else no c Moved
draw c who x _ = no c Phase

-- the claim on an area is given up
abbrev pub leave : CoreState → ℕ → Actor → ActorState → Outcome
leave c who x (Asks a) = yes (gone c who x a) 0
leave c who x (Holds a w) = yes (gone c who x a) 0
leave c who x _ = no c Phase

-- the next table is due, once enough records were drawn
abbrev pub due_now : CoreState → Outcome
due_now c =
    if nat_lt (c.version + 1) (length c.plan.tables)
    then (if nat_lt c.records (window c.plan (c.version + 1)).earliest then no c Later else yes (with_desk c Ready) 0)
    else no c NoLoad

abbrev pub due : CoreState → DeskState → Outcome
due c (Writing j) = no c Phase
due c _ = due_now c

-- writing begins once nobody has claimed the spare area
abbrev pub count : CoreState → DeskState → Outcome
count c Ready = if count_of c (spare c) == 0 then yes (with_desk c (Writing 0)) 0 else no c Claimed
count c _ = no c Phase

-- one word more of the next table
abbrev pub write : CoreState → DeskState → Outcome
write c (Writing j) = if nat_lt j (length (next_table c)) then yes (written c j) 0 else no c Phase
write c _ = no c Phase

-- the next table comes into force, once all its words are written
abbrev pub publish : CoreState → DeskState → Outcome
publish c (Writing j) = if nat_lt j (length (next_table c)) then no c Phase else yes (published c) c.records
publish c _ = no c Phase

-- the step of an actor, which must be one of the actors
abbrev pub by_actor : CoreState → maybe.Option Actor → (Actor → ActorState → Outcome) → Outcome
by_actor c maybe.none row = no c Stranger
by_actor c (maybe.some x) row = row x x.state

abbrev pub after : CoreState → Step → Outcome
after c (step.Look who) = by_actor c (get_elem? c.actors who) (look c who)
after c (step.Enter who) = by_actor c (get_elem? c.actors who) (enter c who)
after c (step.Confirm who) = by_actor c (get_elem? c.actors who) (confirm c who)
after c (step.Read who place) = by_actor c (get_elem? c.actors who) (λ _. read c place)
after c (step.Draw who) = by_actor c (get_elem? c.actors who) (draw c who)
after c (step.Leave who) = by_actor c (get_elem? c.actors who) (leave c who)
after c step.Due = due c c.desk
after c step.Count = count c c.desk
after c step.Write = write c c.desk
after c step.Publish = publish c c.desk

-- the state after steps, in order
abbrev pub after_all : CoreState → List Step → CoreState
after_all c steps = fold (λ (b : CoreState) s. (after b s).core) c steps

-- the one step that needs memory, which may be wanting
abbrev pub TakesMemory : Step → Type 0
TakesMemory (step.Draw who) = Unit {0}
TakesMemory _ = ⊥

-- this is the answer and the state after the step
abbrev pub IsAnswer : Outcome → Took → CoreState → Type 0
IsAnswer o took core = (took ≡ o.took) × (core ≡ o.core)
