-- What the definitions say of whole histories and of datagrams put together.
use Rattle.std.specs.Prelude.{◌≡◌, ℕ, false, List, [], ◌∷◌, ◌++◌, fold, Some}
use Rattle.std.specs.declared.cmp.Ordering.{Ordering}
use Rattle.reassembly_lane.specs.declared.answer.Answer.{Answer}
use Rattle.reassembly_lane.specs.declared.parts.Part.{Part}
use Rattle.reassembly_lane.specs.Datagrams.{IsDatagram}
use Rattle.reassembly_lane.specs.History.{clash_within}
use Rattle.reassembly_lane.specs.LaneHistory.{Past, past_among, past_after, past_late_numbers, waiting}
use Rattle.reassembly_lane.specs.Lanes.{Arrival}
use Rattle.reassembly_lane.specs.Parts.{datagram, whole_end}

-- the answer to each of some pieces that come where these datagrams wait, with the first numbers of those given up with it
abbrev pub told : {K : Type 0} → (K → K → Ordering) → List (K × Past) → List (Arrival K) → List (Answer × List ℕ)
told cmp pasts [] = []
told cmp pasts (piece ∷ pieces) = ((past_among cmp pasts piece).answer, past_late_numbers piece.time pasts) ∷ told cmp (past_after cmp pasts piece) pieces

-- pieces behind others: they are told what they are told alone, where those in front of them left off
abbrev pub HistoriesJoin : {K : Type 0} → (K → K → Ordering) → Type 0
HistoriesJoin {K} cmp = (front back : List (Arrival K)) →
    (waiting cmp (front ++ back) ≡ fold (past_after cmp) (waiting cmp front) back)
    × (told cmp [] (front ++ back) ≡ told cmp [] front ++ told cmp (waiting cmp front) back)

-- pieces that are whole and do not clash: the datagram is as long as its end says, and has each piece's bytes at 8 times its
-- offset
abbrev pub DatagramsHoldTheirPieces : Type 0
DatagramsHoldTheirPieces = (pieces : List Part) (end : ℕ) → clash_within pieces ≡ false → whole_end pieces ≡ Some end →
    IsDatagram pieces end (datagram pieces end)
