-- The buffer of a round at its places in a run, and what the source, the judges and the sink make of it.
use Rattle.std.specs.Prelude.{Bool, List, [], false, length, ℕ, ◌+◌, ◌^◌, ◌≡◌, ◌≤◌}
use Rattle.run_turns.specs.Words.{AreasValue, FreeValue, StagedValue}
use Rattle.std.specs.List.{sum_by}
use Rattle.run_turns.specs.declared.turn.TurnSeat.{TurnSeat}
use Rattle.run_turns.specs.declared.turn.TurnSeat.TheVariants as seat

-- areas of no run
abbrev pub no_areas : AreasValue
no_areas = record {
  table_id = record { words = 0; slots = 0; views_name = 0; atom = 0; block = 0; offset = 0; slot_names = [] };
  plan = record { tables = []; windows = [] };
}

-- it holds nothing, and is of these areas
abbrev pub IsFree : AreasValue → TurnSeat → Type 0
IsFree areas (seat.Free free) = free.areas ≡ areas
IsFree areas (seat.Held held) = ⊥
IsFree areas seat.Away = Unit {0}

-- it is of these areas
abbrev pub IsHere : AreasValue → TurnSeat → Type 0
IsHere areas (seat.Free free) = free.areas ≡ areas
IsHere areas (seat.Held held) = held.areas ≡ areas
IsHere areas seat.Away = Unit {0}

-- it holds nothing
abbrev pub HoldsNothing : TurnSeat → Type 0
HoldsNothing (seat.Free free) = Unit {0}
HoldsNothing (seat.Held held) = ⊥
HoldsNothing seat.Away = Unit {0}

-- A round was read: each of its records has an entry, unless memory was refused.
pub record IsReadRound (areas : AreasValue) (start : ℕ) (round : StagedValue) (s : TurnSeat) (refused : Bool) : Type 0 where
  pub here : IsHere areas s
  pub same : refused ≡ false → length round.entries ≡ length round.records
  pub few : refused ≡ false → start + length round.records ≤ 2 ^ 31

-- its part of all shares, and how many words it read
abbrev pub share_of : TurnSeat → ℕ
share_of (seat.Free free) = free.known.share
share_of (seat.Held held) = held.known.share
share_of seat.Away = 0

abbrev pub reads_of : TurnSeat → ℕ
reads_of (seat.Free free) = free.known.reads
reads_of (seat.Held held) = held.known.reads
reads_of seat.Away = 0

-- those of seats that no buffer has
abbrev pub shares_in : List FreeValue → ℕ
shares_in seats = sum_by (λ (f : FreeValue). f.known.share) seats

abbrev pub reads_in : List FreeValue → ℕ
reads_in seats = sum_by (λ (f : FreeValue). f.known.reads) seats
