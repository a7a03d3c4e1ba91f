-- What comes of a datagram with one more part.
use Rattle.std.specs.Prelude.{ℕ, if◌then◌else◌, nat_lt, nat_le, List, [], length, Option, Some, None, insert}
use Rattle.std.specs.List.{list_any, prefix_len}
use Rattle.reassembly_lane.specs.declared.answer.Answer.{Answer}
use Rattle.reassembly_lane.specs.declared.answer.Answer.TheVariants as answer
use Rattle.reassembly_lane.specs.declared.answer.FragBad.{FragBad}
use Rattle.reassembly_lane.specs.declared.answer.FragBad.TheVariants as bad
use Rattle.reassembly_lane.specs.declared.parts.Part.{Part}
use Rattle.reassembly_lane.specs.Parts.{is_same, clash, whole_end, whole_answer}

-- A datagram of which pieces have come. Its parts are in the order of their offsets; one that was refused has none.
pub record Partial : Type 0 where
  -- the time and the number of its first piece
  pub begun : ℕ
  pub number : ℕ
  pub parts : List Part
  pub refused : Option FragBad

-- how many parts of a datagram are kept (ours)
abbrev pub most_parts : ℕ
most_parts = 256

-- the parts with one more, behind those that begin before it
abbrev pub placed : Part → List Part → List Part
placed part parts = insert parts (prefix_len (λ other. nat_lt other.offset part.offset) parts) part

-- What comes of it: `None` where it ends.
pub record Outcome : Type 0 where
  pub left : Option Partial
  pub answer : Answer

abbrev pub staying : Partial → Answer → Outcome
staying partial answer = record { left = Some partial; answer = answer }

-- the datagram is refused from now on
abbrev pub refusing : Partial → FragBad → Outcome
refusing partial why = staying (record partial { parts = []; refused = Some why }) (answer.Refused why)

-- by where the datagram ends, if it is whole
abbrev pub finished : Partial → List Part → Option ℕ → Outcome
finished partial parts None = staying (record partial { parts = parts }) answer.Held
finished partial parts (Some end) = record { left = None; answer = whole_answer parts end }

-- a part is kept where it is no repeat, clashes with none, and is not one too many
abbrev pub with_new : Partial → Part → Outcome
with_new partial part =
    if list_any (λ other. is_same other part) partial.parts then staying partial answer.Held
    else if list_any (clash part) partial.parts then refusing partial bad.Overlap
    else if nat_le most_parts (length partial.parts) then refusing partial bad.Many
    else finished partial (placed part partial.parts) (whole_end (placed part partial.parts))

abbrev pub unless_refused : Option FragBad → Partial → Part → Outcome
unless_refused (Some why) partial part = staying partial (answer.Refused why)
unless_refused None partial part = with_new partial part

abbrev pub with_part : Partial → Part → Outcome
with_part partial part = unless_refused partial.refused partial part
