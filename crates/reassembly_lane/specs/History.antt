-- What the pieces of one datagram have come to, told by all of them in the order in which they came.
use Rattle.std.specs.Prelude.{ℕ, Bool, true, false, ◌||◌, if◌then◌else◌, nat_le, List, [], ◌∷◌, ◌++◌, length, take, fold, Option, Some, None}
use Rattle.std.specs.List.{list_any}
use Rattle.reassembly_lane.specs.declared.answer.Answer.{Answer}
use Rattle.reassembly_lane.specs.declared.answer.Answer.TheVariants as answer
use Rattle.reassembly_lane.specs.declared.answer.FragBad.{FragBad}
use Rattle.reassembly_lane.specs.declared.answer.FragBad.TheVariants as bad
use Rattle.reassembly_lane.specs.declared.parts.Part.{Part}
use Rattle.reassembly_lane.specs.Parts.{is_same, clash, whole_end, whole_answer}

-- the pieces with each repeat of an earlier same piece left out
abbrev pub unless_repeat : List Part → Part → List Part
unless_repeat kept piece = if list_any (λ other. is_same other piece) kept then kept else kept ++ piece ∷ []

abbrev pub distinct : List Part → List Part
distinct pieces = fold unless_repeat [] pieces

-- two of the pieces clash
abbrev pub clash_within : List Part → Bool
clash_within [] = false
clash_within (p ∷ ps) = list_any (clash p) ps || clash_within ps

-- why distinct pieces are refused, if they are
abbrev pub refusal : List Part → Option FragBad
refusal pieces =
    if clash_within (take 257 pieces) then Some bad.Overlap
    else if nat_le 257 (length pieces) then Some bad.Many
    else None

-- What pieces have come to: whether their datagram has ended, and the answer to the last of them.
pub record Fate : Type 0 where
  pub ends : Bool
  pub answer : Answer

abbrev pub by_end : List Part → Option ℕ → Fate
by_end pieces None = record { ends = false; answer = answer.Held }
by_end pieces (Some end) = record { ends = true; answer = whole_answer pieces end }

abbrev pub by_refusal : List Part → Option FragBad → Fate
by_refusal pieces (Some why) = record { ends = false; answer = answer.Refused why }
by_refusal pieces None = by_end pieces (whole_end pieces)

abbrev pub fate : List Part → Fate
fate pieces = by_refusal (distinct pieces) (refusal (distinct pieces))
