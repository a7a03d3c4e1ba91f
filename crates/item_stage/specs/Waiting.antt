-- A row of lanes: what waits in each, and what a fragment does to one.
use Rattle.std.specs.Prelude.{ℕ, List, [], flat_map, replicate, slice_index_or, slice_set}
use Rattle.std.specs.declared.cmp.Ordering.{Ordering}
use Rattle.item_stage.specs.Fragments.{lane_count}
use Rattle.item_stage.specs.Ordered.{ascending}
use Rattle.reassembly_lane.specs.Contexts.{Partial}
use Rattle.reassembly_lane.specs.Lanes.{Arrival, fed, first_numbers, late_numbers}
use Rattle.reassembly_lane.specs.declared.answer.Answer.{Answer}
use Rattle.reassembly_lane.specs.declared.answer.Fed.{Fed}

abbrev pub Waiting : Type 0 → Type 0
Waiting K = List (List (K × Partial))

-- nothing waits
abbrev pub no_row : {K : Type 0} → Waiting K
no_row = replicate lane_count []

abbrev pub lane_at : {K : Type 0} → Waiting K → ℕ → List (K × Partial)
lane_at row lane = slice_index_or row lane []

-- What a fragment does to a row.
pub record RowTurn (K : Type 0) : Type 0 where
  pub row : Waiting K
  pub answer : Answer
  -- the first numbers of the datagrams whose time is up with it, ascending
  pub ended : List ℕ

abbrev pub row_turn : {K : Type 0} → Fed → Waiting K → RowTurn K
row_turn said row = record { row = row; answer = said.answer; ended = said.ended }

-- a fragment goes to one lane, and the others stay
abbrev pub row_fed : {K : Type 0} → (K → K → Ordering) → Waiting K → ℕ → Arrival K → RowTurn K
row_fed cmp row lane piece = record {
  row = slice_set row lane (fed cmp (lane_at row lane) piece).contexts;
  answer = (fed cmp (lane_at row lane) piece).answer;
  ended = ascending (late_numbers piece.time (lane_at row lane));
}

-- the first number of each datagram that waits
abbrev pub numbers_in : {K : Type 0} → Waiting K → List ℕ
numbers_in row = flat_map first_numbers row
