-- What a lane comes to, told by all pieces that it was given.
use Rattle.std.specs.Prelude.{◌≡◌, ℕ, not, if◌then◌else◌, nat_le, List, [], ◌∷◌, ◌++◌, map, filter, fold, length, Option, Some, None}
use Rattle.std.specs.declared.cmp.Ordering.{Ordering}
use Rattle.std.specs.Map.{lookup, set_value, remove_entry}
use Rattle.std.specs.BTreeMap.{is_at, insert_entry}
use Rattle.std.specs.List.Sorted.{IsPermutation}
use Rattle.reassembly_lane.specs.declared.answer.Answer.{Answer}
use Rattle.reassembly_lane.specs.declared.answer.Answer.TheVariants as answer
use Rattle.reassembly_lane.specs.declared.answer.FragBad.TheVariants as bad
use Rattle.reassembly_lane.specs.declared.parts.Part.{Part}
use Rattle.reassembly_lane.specs.Contexts.{Partial}
use Rattle.reassembly_lane.specs.History.{Fate, fate, distinct, refusal}
use Rattle.reassembly_lane.specs.Lanes.{Arrival, waits, most_contexts, is_odd, is_long}
use Rattle.reassembly_lane.specs.Numbers.{IsAscending}
use Rattle.reassembly_lane.specs.Parts.{whole_end}
use Rattle.reassembly_lane.specs.Sound.{IsSound}
use Rattle.std.specs.List.{AllZip}

-- A datagram that waits, as the list of all its pieces since it began.
pub record Past : Type 0 where
  pub begun : ℕ
  pub number : ℕ
  pub pieces : List Part

abbrev pub with_piece : Past → Part → Past
with_piece past piece = record past { pieces = past.pieces ++ piece ∷ [] }

-- a datagram that begins with this piece
abbrev pub begun_by : {K : Type 0} → Arrival K → Past
begun_by piece = record { begun = piece.time; number = piece.number; pieces = piece.part ∷ [] }

-- What comes of a lane.
pub record PastOutcome (K : Type 0) : Type 0 where
  pub pasts : List (K × Past)
  pub answer : Answer

abbrev pub pasts_open_at : {K : Type 0} → ℕ → List (K × Past) → List (K × Past)
pasts_open_at time pasts = filter (λ e. waits time e.1.begun) pasts

-- the first numbers of those whose time is up, and of all
abbrev pub past_late_numbers : {K : Type 0} → ℕ → List (K × Past) → List ℕ
past_late_numbers time pasts = map (λ e. e.1.number) (filter (λ e. not (waits time e.1.begun)) pasts)

abbrev pub past_first_numbers : {K : Type 0} → List (K × Past) → List ℕ
past_first_numbers pasts = map (λ e. e.1.number) pasts

module _ {K : Type 0} (cmp : K → K → Ordering) where
  -- one piece more of a datagram that waits, or the first one; where its fate ends it, it is gone
  abbrev pub past_going_on : List (K × Past) → K → Past → Fate → PastOutcome K
  past_going_on pasts key past comes = record {
    pasts = if comes.ends then remove_entry (is_at (cmp key)) pasts else set_value (is_at (cmp key)) pasts past;
    answer = comes.answer;
  }

  abbrev pub past_beginning : List (K × Past) → K → Past → Fate → PastOutcome K
  past_beginning pasts key past comes = record {
    pasts = if comes.ends then pasts else insert_entry cmp pasts key past;
    answer = comes.answer;
  }

  abbrev pub past_found : List (K × Past) → Arrival K → Option Past → PastOutcome K
  past_found pasts piece (Some past) = past_going_on pasts piece.key (with_piece past piece.part) (fate (with_piece past piece.part).pieces)
  past_found pasts piece None =
      if nat_le most_contexts (length (pasts_open_at piece.time pasts)) then record { pasts = pasts; answer = answer.Refused bad.Full }
      else past_beginning pasts piece.key (begun_by piece) (fate (begun_by piece).pieces)

  -- a piece that is refused alone belongs to no datagram
  abbrev pub past_among : List (K × Past) → Arrival K → PastOutcome K
  past_among pasts piece =
      if is_odd piece.part then record { pasts = pasts; answer = answer.Refused bad.Odd }
      else if is_long piece.part then record { pasts = pasts; answer = answer.Refused bad.Long }
      else past_found pasts piece (lookup (is_at (cmp piece.key)) (pasts_open_at piece.time pasts))

  -- the datagrams that wait after one piece more
  abbrev pub past_after : List (K × Past) → Arrival K → List (K × Past)
  past_after pasts piece = pasts_open_at piece.time (past_among pasts piece).pasts

  -- the datagrams that wait after all pieces of a history
  abbrev pub waiting : List (Arrival K) → List (K × Past)
  waiting history = fold past_after [] history

-- What is kept of a datagram stands for its pieces: it is refused where they are, and else it keeps each distinct one, in the
-- order of their offsets, and is not whole.
pub record StandsFor (past : Past) (partial : Partial) : Type 0 where
  pub begun : past.begun ≡ partial.begun
  pub number : past.number ≡ partial.number
  pub refused : partial.refused ≡ refusal (distinct past.pieces)
  pub keeps : partial.refused ≡ None → IsPermutation (distinct past.pieces) partial.parts
  pub unfinished : partial.refused ≡ None → whole_end (distinct past.pieces) ≡ None
  pub sound : IsSound partial.parts

abbrev pub SameContext : {K : Type 0} → K × Past → K × Partial → Type 0
SameContext a b = (a.0 ≡ b.0) × StandsFor a.1 b.1

-- A lane stands for a history: its contexts are those of the datagrams that wait after it, key by key.
abbrev pub Remembers : {K : Type 0} → (K → K → Ordering) → List (Arrival K) → List (K × Partial) → Type 0
Remembers cmp history contexts = AllZip SameContext (waiting cmp history) contexts

-- What one piece more does, by the history before it.
pub record Follows {K : Type 0} (cmp : K → K → Ordering) (history : List (Arrival K)) (piece : Arrival K) (said : Answer) (ended : List ℕ)
    (contexts : List (K × Partial)) : Type 0 where
  pub remembers : Remembers cmp (history ++ piece ∷ []) contexts
  pub answers : said ≡ (past_among cmp (waiting cmp history) piece).answer
  pub ends : IsAscending (past_late_numbers piece.time (waiting cmp history)) ended
