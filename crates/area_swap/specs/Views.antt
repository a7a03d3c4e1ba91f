-- What a seat knows, and how each of its moves changes that.
use Rattle.std.specs.Prelude.{◌≡◌, ℕ, ◌+◌, ◌-◌, ◌*◌, ◌/◌, ◌%◌, ◌<◌, ◌≤◌, ◌⊎◌, true, false, List, [], ◌++◌, length, max}
use Rattle.swap_core.specs.Plans.{Tables, stale, table, width}
use Rattle.swap_core.specs.States.{CoreState, newcomer, in_state}
use Rattle.swap_core.specs.declared.actors.ActorState.{ActorState}
use Rattle.swap_core.specs.declared.actors.ActorState.TheVariants.{Asks, Holds}
use Rattle.swap_core.specs.declared.actors.DeskState.TheVariants.{Resting}
use Rattle.area_swap.specs.declared.answers.Seen.{Seen}
use Rattle.area_swap.specs.declared.board.View.{View}
use Rattle.area_swap.specs.Places.{row_place}

-- the version word: the version in the high 32 bits, the number of records drawn in the low ones
abbrev pub packed : Seen → ℕ
packed s = s.version * 4294967296 + s.records

abbrev pub unpacked : ℕ → Seen
unpacked n = record { version = n / 4294967296; records = n % 4294967296 }

abbrev pub nothing_seen : Seen
nothing_seen = record { version = 0; records = 0 }

-- the version in force and the records drawn
abbrev pub now_of : CoreState → Seen
now_of c = record { version = c.version; records = c.records }

-- neither half is above that of the other
pub record IsUpTo (before now : Seen) : Type 0 where
  pub version : before.version ≤ now.version
  pub records : before.records ≤ now.records

-- the greater of the two in each half
abbrev pub latest : Seen → Seen → Seen
latest s t = record { version = max s.version t.version; records = max s.records t.records }

-- all of a worker's shares
abbrev pub whole_share : ℕ
whole_share = 65536

-- the first seat, from which the desk's is then taken
abbrev pub first_view : Tables → View
first_view plan =
    record {
      plan = plan;
      actor = newcomer;
      share = 65536;
      right = 65536;
      reads = 0;
      seen = nothing_seen;
      prior = nothing_seen;
      looks = 0;
      has_desk = true;
      desk = Resting;
      points = [];
      counted = 0;
      counts = 0;
    }

-- a worker's first view, and the desk's
abbrev pub worker_view : View → View
worker_view v = record v { has_desk = false }

abbrev pub desk_view : View → View
desk_view v = record v { share = 0; right = 0; actor = newcomer }

-- what is left of a seat that was joined into another
abbrev pub spent_view : View
spent_view =
    record {
      plan = record { tables = []; windows = [] };
      actor = newcomer;
      share = 0;
      right = 0;
      reads = 0;
      seen = nothing_seen;
      prior = nothing_seen;
      looks = 0;
      has_desk = false;
      desk = Resting;
      points = [];
      counted = 0;
      counts = 0;
    }

-- a seat that is in use: a worker's has a share, the desk's has the desk
abbrev pub IsSeated : View → Type 0
IsSeated v = (0 < v.share) ⊎ (v.has_desk ≡ true)

abbrev pub acting : View → ActorState → View
acting v s = record v { actor = in_state v.actor s }

-- the version word was read once more
abbrev pub reading : View → Seen → View
reading v now = record v { seen = now; prior = v.seen; looks = v.looks + 1 }

-- the first look of a claim found this, and the seat asks for the area of that version
abbrev pub asking : View → Seen → View
asking v now = acting (reading v now) (Asks (now.version % 2))

-- these draws are the seat's too
abbrev pub taking : View → List (ℕ × ℕ) → View
taking v news = record v { actor = record { state = v.actor.state; draws = v.actor.draws ++ news } }

-- a seat with half of the share, and the new seat with the other half
abbrev pub kept_half : View → View
kept_half v = record v { share = v.share / 2; right = v.right - v.right / 2 }

abbrev pub new_half : View → View
new_half v = record v { share = v.share / 2; right = v.right / 2; actor = newcomer; reads = 0 }

-- a seat that keeps half of its share and all of its right to draw, and the seat that is lent: it has the other half, and may not draw
abbrev pub kept_lending : View → View
kept_lending v = record v { share = v.share / 2 }

abbrev pub lent_half : View → View
lent_half v = record v { share = v.share / 2; right = 0; actor = newcomer; reads = 0 }

-- a seat that another was joined into
abbrev pub together : View → View → View
together v w =
    record v {
      actor = record { state = v.actor.state; draws = v.actor.draws ++ w.actor.draws };
      share = v.share + w.share;
      right = v.right + w.right;
      reads = v.reads + w.reads;
      seen = latest v.seen w.seen;
      looks = max v.looks w.looks;
    }

-- a worker's seat that the desk's was joined into
abbrev pub with_desk_of : View → View → View
with_desk_of v w =
    record (together v w) { has_desk = true; desk = w.desk; points = w.points; counted = w.counted; counts = w.counts }

-- the version that is held
abbrev pub version_in : ActorState → ℕ
version_in (Holds a w) = w
version_in _ = 0

abbrev pub held_version : View → ℕ
held_version v = version_in v.actor.state

-- the words of the table that is held
abbrev pub held_table : View → List ℕ
held_table v = table v.plan (held_version v)

-- where the row of the held version's area begins
abbrev pub held_row : View → ℕ
held_row v = row_place (width v.plan) (held_version v % 2)

-- the table that comes next, by the number of points
abbrev pub next_of : View → List ℕ
next_of v = table v.plan (length v.points + 1)

-- the words that stand in the spare area before it is written
abbrev pub stale_of : View → List ℕ
stale_of v = stale v.plan (length v.points)

abbrev pub spare_of : View → ℕ
spare_of v = (length v.points + 1) % 2
