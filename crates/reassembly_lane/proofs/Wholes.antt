-- When sound parts are whole, and what their datagram is, as the code finds it.
use Rattle.std.proofs.Common.{◌≡◌, ℕ, suc, ◌+◌, ◌-◌, ◌<◌, ◌≤◌, ◌==◌, Bool, true, false, cond, List, [], ◌∷◌, ◌++◌, length, get_or, take, drop, insert, refl, sym, ◌∙◌, ap, subst, arith, Option, Some, None, eq-eqb}
use Rattle.std.specs.Prelude.{nat_lt, if◌then◌else◌}
use Rattle.std.proofs.lemmas.Bool.Decides.{nat_tests}
use Rattle.std.proofs.lemmas.Bool.{lt-ltb, le-ltb, ne_eqb}
use Rattle.std.proofs.lemmas.List.{append_assoc, get_or_read}
use Rattle.std.proofs.lemmas.List.Sums.{sum_by-insert}
use Rattle.std.specs.List.{list_any}
use Rattle.std.proofs.lemmas.List.Concat.{flat_map-append}
use Rattle.reassembly_lane.specs.declared.answer.Answer.TheVariants as answer
use Rattle.reassembly_lane.specs.declared.answer.FragBad.TheVariants as bad
use Rattle.reassembly_lane.specs.declared.parts.Part.{Part}
use Rattle.reassembly_lane.specs.Parts.{start, past, clash, holds, covered, end_of, end_if_covered, whole_end, whole_answer, first_of, datagram, longest, no_part}
use Rattle.reassembly_lane.specs.Joined.{joined}
use Rattle.reassembly_lane.specs.Sound.{part_at, IsSound, IsSoundPart, IsPlace, total_size}
use Rattle.reassembly_lane.proofs.Covers.{reach, reach_small, IsTight, tight_start, tight_from_covered, covered_by_sizes, end_of_last, last_end}
use Rattle.reassembly_lane.proofs.Joins.{datagram_is, joined_stands, joined_long}
use Rattle.reassembly_lane.proofs.Order.{at_place, at_above, longer, with_one_sound}

-- where a datagram with a last part ends
pub reach_is_end : (parts : List Part) → IsSound parts → (end : ℕ) → end_of parts ≡ Some end → end ≡ reach parts (length parts)
reach_is_end [] s end e = cc
reach_is_end (p ∷ ps) s end e = by_more (part_at (p ∷ ps) (length ps)).more (sym (last_end (p ∷ ps) (length ps) refl s) ∙ e)
  where
    by_more : (b : Bool) → cond b None (Some (reach (p ∷ ps) (suc (length ps)))) ≡ Some end → end ≡ reach (p ∷ ps) (suc (length ps))
    by_more true e = cc
    by_more false e = cc

pub whole_by_sizes : (parts : List Part) → IsSound parts → (end : ℕ) → end_of parts ≡ Some end → whole_end parts ≡ (if total_size parts == end then Some end else None)
whole_by_sizes parts s end e =
    let r : end ≡ reach parts (length parts) = reach_is_end parts s end e in
    let c : covered parts end ≡ (total_size parts == end) = ap (covered parts) r ∙ covered_by_sizes parts s ∙ ap (λ (n : ℕ). total_size parts == n) (sym r) in
    ap (end_if_covered parts) e ∙ ap (λ (b : Bool). if b then Some end else None) c

pub whole_yes : (parts : List Part) → IsSound parts → (end : ℕ) → end_of parts ≡ Some end → total_size parts ≡ end → whole_end parts ≡ Some end
whole_yes parts s end e n = whole_by_sizes parts s end e ∙ ap (λ (b : Bool). if b then Some end else None) (eq-eqb (total_size parts) end n)

pub whole_no : (parts : List Part) → IsSound parts → (end : ℕ) → end_of parts ≡ Some end → (total_size parts ≡ end → ⊥) → whole_end parts ≡ None
whole_no parts s end e n = whole_by_sizes parts s end e ∙ ap (λ (b : Bool). if b then Some end else None) (ne_eqb (total_size parts) end n)

-- what wholeness says
pub end_from_whole : (parts : List Part) (end : ℕ) → whole_end parts ≡ Some end → end_of parts ≡ Some end
end_from_whole parts end e = by_end (end_of parts) refl e
  where
    by_covered : (n : ℕ) (b : Bool) → (if b then Some n else None) ≡ Some end → n ≡ end
    by_covered n true e = cc
    by_covered n false e = cc

    by_end : (o : Option ℕ) → end_of parts ≡ o → end_if_covered parts o ≡ Some end → end_of parts ≡ Some end
    by_end None h e = cc
    by_end (Some n) h e = h ∙ ap Some (by_covered n (covered parts n) e)

pub covered_from_whole : (parts : List Part) (end : ℕ) → whole_end parts ≡ Some end → covered parts end ≡ true
covered_from_whole parts end e = by_covered (covered parts end) (sym (ap (end_if_covered parts) (end_from_whole parts end e)) ∙ e)
  where
    by_covered : (b : Bool) → (if b then Some end else None) ≡ Some end → b ≡ true
    by_covered true e = refl
    by_covered false e = cc

pub tight_from_whole : (parts : List Part) → IsSound parts → (end : ℕ) → whole_end parts ≡ Some end → IsTight parts
tight_from_whole parts s end e =
    let r : end ≡ reach parts (length parts) = reach_is_end parts s end (end_from_whole parts end e) in
    tight_from_covered parts s (ap (covered parts) (sym r) ∙ covered_from_whole parts end e)

-- ---- the first part, and the bytes
holds_first : (part : Part) → start part ≡ 0 → 0 < length part.body → holds 0 part ≡ true
holds_first part a b = grind (arith, nat_tests)

pub first_is : (parts : List Part) → IsSound parts → (end : ℕ) → whole_end parts ≡ Some end → first_of parts ≡ part_at parts 0
first_is [] s end e = refl
first_is (p ∷ ps) s end e =
    let st : start p ≡ 0 = tight_start (p ∷ ps) (tight_from_whole (p ∷ ps) s end e) 0 (omega arith) in
    rw (holds_first p st (s.filled 0 (omega arith))) refl

pub starts_at_0 : (parts : List Part) → IsSound parts → (end : ℕ) → whole_end parts ≡ Some end → 0 < length parts → start (part_at parts 0) ≡ 0
starts_at_0 parts s end e h = tight_start parts (tight_from_whole parts s end e) 0 h

pub joined_is : (parts : List Part) → IsSound parts → (end : ℕ) → whole_end parts ≡ Some end → datagram parts end ≡ joined parts
joined_is parts s end e =
    let t : IsTight parts = tight_from_whole parts s end e in
    let r : end ≡ reach parts (length parts) = reach_is_end parts s end (end_from_whole parts end e) in
    datagram_is (joined parts) parts end (joined_long parts t ∙ sym r) (joined_stands parts t) (covered_from_whole parts end e)

pub too_long : (parts : List Part) → IsSound parts → (end : ℕ) → whole_end parts ≡ Some end → longest < (part_at parts 0).extra + end → whole_answer parts end ≡ answer.Refused bad.Long
too_long parts s end e h =
    let f : first_of parts ≡ part_at parts 0 = first_is parts s end e in
    ap (λ (p : Part). if nat_lt longest (p.extra + end) then answer.Refused bad.Long else answer.Whole p.head (datagram parts end)) f
    ∙ ap (λ (b : Bool). if b then answer.Refused bad.Long else answer.Whole (part_at parts 0).head (datagram parts end)) (lt-ltb longest ((part_at parts 0).extra + end) h)

pub not_too_long : (parts : List Part) → IsSound parts → (end : ℕ) → whole_end parts ≡ Some end → (part_at parts 0).extra + end ≤ longest → whole_answer parts end ≡ answer.Whole (part_at parts 0).head (joined parts)
not_too_long parts s end e h =
    let f : first_of parts ≡ part_at parts 0 = first_is parts s end e in
    ap (λ (p : Part). if nat_lt longest (p.extra + end) then answer.Refused bad.Long else answer.Whole p.head (datagram parts end)) f
    ∙ ap (λ (b : Bool). if b then answer.Refused bad.Long else answer.Whole (part_at parts 0).head (datagram parts end)) (le-ltb longest ((part_at parts 0).extra + end) h)
    ∙ ap (answer.Whole (part_at parts 0).head) (joined_is parts s end e)

-- ---- with one more part
pub joined_insert : (parts : List Part) (part : Part) (place : ℕ) → joined (insert parts place part) ≡ joined (take place parts) ++ part.body ++ joined (drop place parts)
joined_insert parts part place = flat_map-append (λ p. p.body) (take place parts) (part ∷ drop place parts) ∙ sym (append_assoc (joined (take place parts)) part.body (joined (drop place parts)))

-- where the datagram ends, by its last part
end_by : (parts : List Part) (n : ℕ) (last : Part) → suc n ≡ length parts → IsSound parts → part_at parts n ≡ last → end_of parts ≡ (if last.more then None else Some (past last))
end_by parts n last e s is = end_of_last parts n e s.follows ∙ ap (λ (p : Part). if p.more then None else Some (past p)) is

pub end_at_last : (parts : List Part) (part : Part) (place : ℕ) → IsSound (insert parts place part) → place ≤ length parts → length parts ≤ place → end_of (insert parts place part) ≡ (if part.more then None else Some (past part))
end_at_last parts part place s w h =
    let n : length (insert parts place part) ≡ length parts + 1 = longer parts part place w in
    end_by (insert parts place part) place part (omega arith) s (at_place parts part place w)

pub end_in_front : (parts : List Part) (part last : Part) (place : ℕ) → IsSound (insert parts place part) → place < length parts → last ≡ part_at parts (length parts - 1) → end_of (insert parts place part) ≡ (if last.more then None else Some (past last))
end_in_front parts part last place s h e =
    let w : place ≤ length parts = omega arith in
    let n : length (insert parts place part) ≡ length parts + 1 = longer parts part place w in
    end_by (insert parts place part) (length parts) last (omega arith) s (at_above parts part place w (length parts) h ∙ sym e)

-- ---- as the code reads them: `x` is the answer, from what a call ensured
module _ (parts : List Part) (part : Part) (place : ℕ) (s : IsSound parts) (q : IsSoundPart part) (p : IsPlace parts part.offset place) (f : list_any (clash part) parts ≡ false) where
  grown : IsSound (insert parts place part)
  grown = with_one_sound parts part place s q p f

  pub reads_last_new : (end : ℕ) (x : Option ℕ) → length parts ≤ place → x ≡ (if part.more then None else Some end) → end ≡ past part → x ≡ end_of (insert parts place part)
  reads_last_new end x h e n = e ∙ ap (λ (k : ℕ). if part.more then None else Some k) n ∙ sym (end_at_last parts part place grown p.within h)

  pub reads_last_old : (end : ℕ) (x : Option ℕ) (last : Part) → place < length parts → last ≡ get_or parts (length parts - 1) last → x ≡ (if last.more then None else Some end) → end ≡ past last → x ≡ end_of (insert parts place part)
  reads_last_old end x last h r e n =
      let l : last ≡ part_at parts (length parts - 1) = get_or_read parts (length parts - 1) last (omega arith) r no_part in
      e ∙ ap (λ (k : ℕ). if last.more then None else Some k) n ∙ sym (end_in_front parts part last place grown h l)

  size_grown : total_size (insert parts place part) ≡ total_size parts + length part.body
  size_grown = sum_by-insert (λ o. length o.body) parts place part

  pub reads_whole : (end size : ℕ) → Some end ≡ end_of (insert parts place part) → size ≡ total_size parts → size + length part.body ≡ end → Some end ≡ whole_end (insert parts place part)
  reads_whole end size e n h =
      let g : total_size (insert parts place part) ≡ total_size parts + length part.body = size_grown in
      sym (whole_yes (insert parts place part) grown end (sym e) (omega arith))

  pub reads_unfinished : (end size : ℕ) → Some end ≡ end_of (insert parts place part) → size ≡ total_size parts → (size + length part.body ≡ end → ⊥) → None ≡ whole_end (insert parts place part)
  reads_unfinished end size e n h =
      let g : total_size (insert parts place part) ≡ total_size parts + length part.body = size_grown in
      sym (whole_no (insert parts place part) grown end (sym e) (λ k. h (omega arith)))

  module _ (end : ℕ) (w : whole_end (insert parts place part) ≡ Some end) where
    pub end_small : end ≤ 65535
    end_small =
        let r : end ≡ reach (insert parts place part) (length (insert parts place part)) = reach_is_end (insert parts place part) grown end (end_from_whole (insert parts place part) end w) in
        let m : reach (insert parts place part) (length (insert parts place part)) ≤ 65535 = reach_small (insert parts place part) grown (length (insert parts place part)) (omega arith) in
        omega arith

    pub begins_at_0 : place ≡ 0 → part.offset ≡ 0
    begins_at_0 h =
        let n : length (insert parts place part) ≡ length parts + 1 = longer parts part place p.within in
        let st : start (part_at (insert parts place part) 0) ≡ 0 = starts_at_0 (insert parts place part) grown end w (omega arith) in
        let is : part_at (insert parts place part) 0 ≡ part = ap (part_at (insert parts place part)) (sym h) ∙ at_place parts part place p.within in
        let st' : start part ≡ 0 = ap start (sym is) ∙ st in
        omega arith

    pub reads_long : (extra : ℕ) → extra ≡ (part_at (insert parts place part) 0).extra → longest < extra + end → answer.Refused bad.Long ≡ whole_answer (insert parts place part) end
    reads_long extra e h = sym (too_long (insert parts place part) grown end w (subst (λ (x : ℕ). longest < x + end) e h))

    pub reads_datagram : (extra : ℕ) (head body : List ℕ) → extra ≡ (part_at (insert parts place part) 0).extra → extra + end ≤ longest → head ≡ (part_at (insert parts place part) 0).head → body ≡ joined (take place parts) ++ part.body ++ joined (drop place parts) → answer.Whole head body ≡ whole_answer (insert parts place part) end
    reads_datagram extra head body e h hd b =
        ap (λ (x : List ℕ). answer.Whole x body) hd
        ∙ ap (answer.Whole (part_at (insert parts place part) 0).head) (b ∙ sym (joined_insert parts part place))
        ∙ sym (not_too_long (insert parts place part) grown end w (subst (λ (x : ℕ). x + end ≤ longest) e h))
