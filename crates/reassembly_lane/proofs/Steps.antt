-- What a context comes to with one more part, once it is known that the part is kept.
use Rattle.std.proofs.Common.{◌≡◌, ℕ, ◌<◌, Bool, false, List, length, insert, sym, ◌∙◌, ap, subst, Option, Some, None, Result, Ok, Err}
use Rattle.std.specs.Prelude.{if◌then◌else◌, nat_le, IfOk}
use Rattle.std.specs.List.{list_any}
use Rattle.std.proofs.lemmas.Bool.{lt-leb}
use Rattle.reassembly_lane.specs.declared.answer.Answer.{Answer}
use Rattle.reassembly_lane.specs.declared.answer.Answer.TheVariants as answer
use Rattle.reassembly_lane.specs.declared.answer.FragBad.{FragBad}
use Rattle.reassembly_lane.specs.declared.answer.FragBad.TheVariants as bad
use Rattle.reassembly_lane.specs.declared.context.Turn.{Turn}
use Rattle.reassembly_lane.specs.declared.context.Turn.TheVariants as turn
use Rattle.reassembly_lane.specs.declared.parts.Part.{Part}
use Rattle.reassembly_lane.specs.Contexts.{Partial, Outcome, staying, refusing, finished, unless_refused, with_part, placed, most_parts}
use Rattle.reassembly_lane.specs.Parts.{is_same, clash, whole_answer, whole_end}
use Rattle.reassembly_lane.specs.Sound.{IsPlace, IsSound}
use Rattle.reassembly_lane.specs.Turns.{outcome}
use Rattle.reassembly_lane.proofs.Order.{placed_is}

-- by the three tests
abbrev by_tests : Partial → Part → Bool → Bool → Bool → Outcome
by_tests partial part a b c =
    if a then staying partial answer.Held
    else if b then refusing partial bad.Overlap
    else if c then refusing partial bad.Many
    else finished partial (placed part partial.parts) (whole_end (placed part partial.parts))

-- what the code knows of a part that it keeps
pub record IsKept (partial : Partial) (part : Part) (place : ℕ) (parts : List Part) : Type 0 where
  pub read : parts ≡ partial.parts
  pub not_refused : partial.refused ≡ None
  pub new : false ≡ list_any (λ other. is_same other part) parts
  pub apart : false ≡ list_any (clash part) parts
  pub room : length parts < 256
  pub sound : IsSound parts
  pub place_is : IsPlace parts part.offset place

kept_comes : (partial : Partial) (part : Part) (place : ℕ) → IsKept partial part place partial.parts → with_part partial part ≡ finished partial (insert partial.parts place part) (whole_end (insert partial.parts place part))
kept_comes partial part place k =
    ap (λ (r : Option FragBad). unless_refused r partial part) k.not_refused
    ∙ ap (λ (b : Bool). by_tests partial part b (list_any (clash part) partial.parts) (nat_le most_parts (length partial.parts))) (sym k.new)
    ∙ ap (λ (b : Bool). by_tests partial part false b (nat_le most_parts (length partial.parts))) (sym k.apart)
    ∙ ap (λ (b : Bool). by_tests partial part false false b) (lt-leb most_parts (length partial.parts) k.room)
    ∙ ap (λ (l : List Part). finished partial l (whole_end l)) (placed_is partial.parts part place k.sound k.place_is)

pub comes_to : (partial : Partial) (part : Part) (place : ℕ) (parts : List Part) → IsKept partial part place parts → with_part partial part ≡ finished partial (insert parts place part) (whole_end (insert parts place part))
comes_to partial part place parts k =
    kept_comes partial part place (subst (IsKept partial part place) k.read k)
    ∙ ap (λ (l : List Part). finished partial (insert l place part) (whole_end (insert l place part))) (sym k.read)

pub ends_so : (partial : Partial) (part : Part) (place : ℕ) (parts : List Part) (end : ℕ) (said : Answer) → IsKept partial part place parts → Some end ≡ whole_end (insert parts place part) → said ≡ whole_answer (insert parts place part) end → outcome (turn.Ends said) partial ≡ with_part partial part
ends_so partial part place parts end said k e w =
    ap (λ (a : Answer). outcome (turn.Ends a) partial) w
    ∙ ap (finished partial (insert parts place part)) e
    ∙ sym (comes_to partial part place parts k)

pub stays_so : {E : Type 0} (partial old left : Partial) (part : Part) (place : ℕ) (parts : List Part) (r : Result Turn E) → IsKept partial part place parts → None ≡ whole_end (insert parts place part) → old ≡ partial → IfOk r (λ t. outcome t left ≡ staying (record old { parts = insert old.parts place part }) answer.Held) → IfOk r (λ t. outcome t left ≡ with_part partial part)
stays_so partial old left part place parts (Err x) k e s h = h
stays_so partial old left part place parts (Ok t) k e s h =
    h
    ∙ ap (λ (p : Partial). staying (record p { parts = insert p.parts place part }) answer.Held) s
    ∙ ap (λ (l : List Part). staying (record partial { parts = insert l place part }) answer.Held) (sym k.read)
    ∙ ap (finished partial (insert parts place part)) e
    ∙ sym (comes_to partial part place parts k)
