-- One datagram: what is kept of it stands for all its pieces, piece by piece.
use Rattle.std.proofs.Common.{◌≡◌, ℕ, ◌+◌, ◌-◌, ◌≤◌, Bool, true, false, List, [], ◌∷◌, ◌++◌, length, refl, sym, ◌∙◌, ap, subst, arith, Option, Some, None}
use Rattle.std.specs.Prelude.{if◌then◌else◌, nat_le, nat_lt, IsPermutation}
use Rattle.std.specs.List.{list_any, prefix_len}
use Rattle.std.proofs.lemmas.Bool.{ltb-true, ltb-false}
use Rattle.std.proofs.lemmas.List.Edits.{length-insert}
use Rattle.std.proofs.lemmas.List.Sorted.{list_any-IsPermutation, length_permutation, IsPermutation-refl, IsPermutation-trans, IsPermutation-cons, IsPermutation-to_front, IsPermutation-insert}
use Rattle.std.proofs.lemmas.List.Sums.{prefix_len-le-length, prefix_len_passes, prefix_len_stops}
use Rattle.reassembly_lane.specs.declared.answer.Answer.TheVariants as answer
use Rattle.reassembly_lane.specs.declared.answer.FragBad.{FragBad}
use Rattle.reassembly_lane.specs.declared.answer.FragBad.TheVariants as bad
use Rattle.reassembly_lane.specs.declared.parts.Part.{Part}
use Rattle.reassembly_lane.specs.Contexts.{Partial, Outcome, staying, refusing, finished, unless_refused, with_new, with_part, placed, most_parts}
use Rattle.reassembly_lane.specs.History.{Fate, fate, by_end, by_refusal, unless_repeat, distinct, refusal}
use Rattle.reassembly_lane.specs.LaneHistory.{Past, with_piece, StandsFor}
use Rattle.reassembly_lane.specs.Lanes.{fresh}
use Rattle.reassembly_lane.specs.Parts.{is_same, clash, whole_end, no_part}
use Rattle.reassembly_lane.specs.Sound.{part_at, IsPlace, IsSound, IsSoundPart}
use Rattle.reassembly_lane.proofs.Distincts.{distinct_push, repeat_push, new_push, IsWaiting, waiting_from_none, refusal_stays, refusal_push}
use Rattle.reassembly_lane.proofs.Orders.{whole_same, answer_same}
use Rattle.reassembly_lane.proofs.Order.{with_one_sound}

-- what a datagram comes to, by its outcome and by its fate: it has ended in both, or in neither and still stands
abbrev pub LeftSame : Past → Option Partial → Bool → Type 0
LeftSame past None ends = ends ≡ true
LeftSame past (Some partial) ends = (ends ≡ false) × StandsFor past partial

pub record IsSameStep (past : Past) (outcome : Outcome) (came : Fate) : Type 0 where
  pub left : LeftSame past outcome.left came.ends
  pub answer : outcome.answer ≡ came.answer

abbrev fate_of : List Part → Fate
fate_of q = by_refusal q (refusal q)

-- the place that `placed` finds is one
pub placed_place : (parts : List Part) (part : Part) → IsPlace parts part.offset (prefix_len (λ other. nat_lt other.offset part.offset) parts)
placed_place parts part = record {
  within = prefix_len-le-length (λ other. nat_lt other.offset part.offset) parts;
  before = λ h. ltb-true (part_at parts (prefix_len (λ other. nat_lt other.offset part.offset) parts - 1)).offset part.offset (prefix_len_passes (λ other. nat_lt other.offset part.offset) parts (prefix_len (λ other. nat_lt other.offset part.offset) parts - 1) no_part (omega arith));
  behind = λ h. ltb-false (part_at parts (prefix_len (λ other. nat_lt other.offset part.offset) parts)).offset part.offset (prefix_len_stops (λ other. nat_lt other.offset part.offset) parts no_part h);
}

moved : (q parts : List Part) (p : Part) → IsPermutation q parts → IsPermutation (q ++ p ∷ []) (placed p parts)
moved q parts p m =
    IsPermutation-trans (q ++ p ∷ []) (p ∷ q) (placed p parts) (IsPermutation-to_front q p)
    (IsPermutation-trans (p ∷ q) (p ∷ parts) (placed p parts) (IsPermutation-cons p q parts m)
    (IsPermutation-insert parts (prefix_len (λ other. nat_lt other.offset p.offset) parts) p))

sound_nothing : IsSound []
sound_nothing = record { apart = λ i j h l. absurd (omega arith); filled = λ i l. absurd (omega arith); short = λ i l. absurd (omega arith); follows = λ i l. absurd (omega arith) }

module _ (past : Past) (partial : Partial) (p : Part) (s : StandsFor past partial) (o : IsSoundPart p) where
  q : List Part
  q = distinct past.pieces

  pushed : distinct (with_piece past p).pieces ≡ unless_repeat (distinct past.pieces) p
  pushed = distinct_push past.pieces p

  -- one that is refused already
  refused_step : (why : FragBad) → partial.refused ≡ Some why → IsSameStep (with_piece past p) (staying partial (answer.Refused why)) (fate (with_piece past p).pieces)
  refused_step why e =
      by_repeat (list_any (λ o. is_same o p) (distinct past.pieces)) refl
    where
      same : (q' : List Part) → distinct (with_piece past p).pieces ≡ q' → refusal q' ≡ Some why → IsSameStep (with_piece past p) (staying partial (answer.Refused why)) (fate (with_piece past p).pieces)
      same q' d r =
          let r' : refusal (distinct (with_piece past p).pieces) ≡ Some why = ap refusal d ∙ r in
          record {
            left = (
              ap (λ (x : Option FragBad). (by_refusal (distinct (with_piece past p).pieces) x).ends) r',
              record {
                begun = s.begun;
                number = s.number;
                refused = e ∙ sym r';
                keeps = λ h. absurd (clashing why (sym e ∙ h));
                unfinished = λ h. absurd (clashing why (sym e ∙ h));
                sound = s.sound;
              },
            );
            answer = sym (ap (λ (x : Option FragBad). (by_refusal (distinct (with_piece past p).pieces) x).answer) r');
          }
        where
          clashing : (why : FragBad) → Some why ≡ None → ⊥
          clashing why z = cc

      by_repeat : (b : Bool) → list_any (λ o. is_same o p) (distinct past.pieces) ≡ b → IsSameStep (with_piece past p) (staying partial (answer.Refused why)) (fate (with_piece past p).pieces)
      by_repeat true h = same (distinct past.pieces) (pushed ∙ repeat_push (distinct past.pieces) p h) (sym s.refused ∙ e)
      by_repeat false h = same (distinct past.pieces ++ p ∷ []) (pushed ∙ new_push (distinct past.pieces) p h) (refusal_stays (distinct past.pieces) p why (sym s.refused ∙ e))

  module _ (n : partial.refused ≡ None) where
    perm : IsPermutation (distinct past.pieces) partial.parts
    perm = s.keeps n

    not_refused : refusal (distinct past.pieces) ≡ None
    not_refused = sym s.refused ∙ n

    count : length partial.parts ≡ length (distinct past.pieces)
    count = length_permutation (distinct past.pieces) partial.parts perm

    -- one that came before
    repeat_step : list_any (λ o. is_same o p) partial.parts ≡ true → IsSameStep (with_piece past p) (staying partial answer.Held) (fate (with_piece past p).pieces)
    repeat_step h =
        let d : distinct (with_piece past p).pieces ≡ distinct past.pieces = pushed ∙ repeat_push (distinct past.pieces) p (list_any-IsPermutation (λ o. is_same o p) (distinct past.pieces) partial.parts perm ∙ h) in
        let f : fate (with_piece past p).pieces ≡ by_end (distinct past.pieces) None = ap fate_of d ∙ ap (by_refusal (distinct past.pieces)) not_refused ∙ ap (by_end (distinct past.pieces)) (s.unfinished n) in
        record {
          left = (
            ap (λ (x : Fate). x.ends) f,
            record {
              begun = s.begun;
              number = s.number;
              refused = s.refused ∙ sym (ap refusal d);
              keeps = λ z. subst (λ (l : List Part). IsPermutation l partial.parts) (sym d) perm;
              unfinished = λ z. ap whole_end d ∙ s.unfinished n;
              sound = s.sound;
            },
          );
          answer = sym (ap (λ (x : Fate). x.answer) f);
        }

    -- one that is refused with its datagram
    refusing_step : (why : FragBad) → distinct (with_piece past p).pieces ≡ distinct past.pieces ++ p ∷ [] → refusal (distinct past.pieces ++ p ∷ []) ≡ Some why → IsSameStep (with_piece past p) (refusing partial why) (fate (with_piece past p).pieces)
    refusing_step why d r =
        let r' : refusal (distinct (with_piece past p).pieces) ≡ Some why = ap refusal d ∙ r in
        record {
          left = (
            ap (λ (x : Option FragBad). (by_refusal (distinct (with_piece past p).pieces) x).ends) r',
            record {
              begun = s.begun;
              number = s.number;
              refused = sym r';
              keeps = λ h. absurd (clashing h);
              unfinished = λ h. absurd (clashing h);
              sound = sound_nothing;
            },
          );
          answer = sym (ap (λ (x : Option FragBad). (by_refusal (distinct (with_piece past p).pieces) x).answer) r');
        }
      where
        clashing : Some why ≡ None → ⊥
        clashing z = cc

    -- one that is kept
    kept_step : distinct (with_piece past p).pieces ≡ distinct past.pieces ++ p ∷ [] → refusal (distinct past.pieces ++ p ∷ []) ≡ None → list_any (clash p) partial.parts ≡ false → (o : Option ℕ) → whole_end (placed p partial.parts) ≡ o → IsSameStep (with_piece past p) (finished partial (placed p partial.parts) o) (fate (with_piece past p).pieces)
    kept_step d r c o' w = by_whole o' w (ap fate_of d ∙ ap (by_refusal (distinct past.pieces ++ p ∷ [])) r ∙ ap (by_end (distinct past.pieces ++ p ∷ [])) (whole_same (distinct past.pieces ++ p ∷ []) (placed p partial.parts) sound' perm' ∙ w))
      where
        perm' : IsPermutation (distinct past.pieces ++ p ∷ []) (placed p partial.parts)
        perm' = moved (distinct past.pieces) partial.parts p perm

        sound' : IsSound (placed p partial.parts)
        sound' = with_one_sound partial.parts p (prefix_len (λ other. nat_lt other.offset p.offset) partial.parts) s.sound o (placed_place partial.parts p) c

        by_whole : (x : Option ℕ) → whole_end (placed p partial.parts) ≡ x → fate (with_piece past p).pieces ≡ by_end (distinct past.pieces ++ p ∷ []) x → IsSameStep (with_piece past p) (finished partial (placed p partial.parts) x) (fate (with_piece past p).pieces)
        by_whole None e f = record {
          left = (
            ap (λ (x : Fate). x.ends) f,
            record {
              begun = s.begun;
              number = s.number;
              refused = n ∙ sym (ap refusal d ∙ r);
              keeps = λ z. subst (λ (l : List Part). IsPermutation l (placed p partial.parts)) (sym d) perm';
              unfinished = λ z. ap whole_end d ∙ whole_same (distinct past.pieces ++ p ∷ []) (placed p partial.parts) sound' perm' ∙ e;
              sound = sound';
            },
          );
          answer = sym (ap (λ (x : Fate). x.answer) f);
        }
        by_whole (Some end) e f =
            let within : prefix_len (λ other. nat_lt other.offset p.offset) partial.parts ≤ length partial.parts = prefix_len-le-length (λ other. nat_lt other.offset p.offset) partial.parts in
            let more : length (placed p partial.parts) ≡ length partial.parts + 1 = length-insert partial.parts (prefix_len (λ other. nat_lt other.offset p.offset) partial.parts) p within in
            record {
              left = ap (λ (x : Fate). x.ends) f;
              answer = sym (ap (λ (x : Fate). x.answer) f ∙ answer_same (distinct past.pieces ++ p ∷ []) (placed p partial.parts) sound' perm' end e (omega arith));
            }

    new_step : IsSameStep (with_piece past p) (with_new partial p) (fate (with_piece past p).pieces)
    new_step = by_repeat (list_any (λ o. is_same o p) partial.parts) refl
      where
        w : IsWaiting (distinct past.pieces)
        w = waiting_from_none (distinct past.pieces) not_refused

        by_room : (b : Bool) → nat_le most_parts (length partial.parts) ≡ b → distinct (with_piece past p).pieces ≡ distinct past.pieces ++ p ∷ [] → list_any (clash p) partial.parts ≡ false → IsSameStep (with_piece past p) (if b then refusing partial bad.Many else finished partial (placed p partial.parts) (whole_end (placed p partial.parts))) (fate (with_piece past p).pieces)
        by_room true e d c = refusing_step bad.Many d (refusal_push (distinct past.pieces) p w
            ∙ ap (λ (x : Bool). if x then Some bad.Overlap else if nat_le 256 (length (distinct past.pieces)) then Some bad.Many else None) (list_any-IsPermutation (clash p) (distinct past.pieces) partial.parts perm ∙ c)
            ∙ ap (λ (x : Bool). if x then Some bad.Many else None) (ap (nat_le 256) (sym count) ∙ e))
        by_room false e d c = kept_step d (refusal_push (distinct past.pieces) p w
            ∙ ap (λ (x : Bool). if x then Some bad.Overlap else if nat_le 256 (length (distinct past.pieces)) then Some bad.Many else None) (list_any-IsPermutation (clash p) (distinct past.pieces) partial.parts perm ∙ c)
            ∙ ap (λ (x : Bool). if x then Some bad.Many else None) (ap (nat_le 256) (sym count) ∙ e)) c (whole_end (placed p partial.parts)) refl

        by_clash : (b : Bool) → list_any (clash p) partial.parts ≡ b → distinct (with_piece past p).pieces ≡ distinct past.pieces ++ p ∷ [] → IsSameStep (with_piece past p) (if b then refusing partial bad.Overlap else if nat_le most_parts (length partial.parts) then refusing partial bad.Many else finished partial (placed p partial.parts) (whole_end (placed p partial.parts))) (fate (with_piece past p).pieces)
        by_clash true e d = refusing_step bad.Overlap d (refusal_push (distinct past.pieces) p w
            ∙ ap (λ (x : Bool). if x then Some bad.Overlap else if nat_le 256 (length (distinct past.pieces)) then Some bad.Many else None) (list_any-IsPermutation (clash p) (distinct past.pieces) partial.parts perm ∙ e))
        by_clash false e d = by_room (nat_le most_parts (length partial.parts)) refl d e

        by_repeat : (b : Bool) → list_any (λ o. is_same o p) partial.parts ≡ b → IsSameStep (with_piece past p) (if b then staying partial answer.Held else if list_any (clash p) partial.parts then refusing partial bad.Overlap else if nat_le most_parts (length partial.parts) then refusing partial bad.Many else finished partial (placed p partial.parts) (whole_end (placed p partial.parts))) (fate (with_piece past p).pieces)
        by_repeat true e = repeat_step e
        by_repeat false e = by_clash (list_any (clash p) partial.parts) refl (pushed ∙ new_push (distinct past.pieces) p (list_any-IsPermutation (λ o. is_same o p) (distinct past.pieces) partial.parts perm ∙ e))

  pub same_step : IsSameStep (with_piece past p) (with_part partial p) (fate (with_piece past p).pieces)
  same_step = by_refused partial.refused refl
    where
      by_refused : (r : Option FragBad) → partial.refused ≡ r → IsSameStep (with_piece past p) (unless_refused r partial p) (fate (with_piece past p).pieces)
      by_refused (Some why) e = refused_step why e
      by_refused None e = new_step e

-- nothing has come
pub stands_fresh : (time number : ℕ) → StandsFor (record { begun = time; number = number; pieces = [] }) (fresh time number)
stands_fresh time number = record { begun = refl; number = refl; refused = refl; keeps = λ h. IsPermutation-refl []; unfinished = λ h. refl; sound = sound_nothing }
