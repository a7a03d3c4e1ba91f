-- The same parts in another order are whole alike.
use Rattle.std.proofs.Common.{◌≡◌, ℕ, zero, suc, ◌+◌, ◌<◌, ◌≤◌, ◌==◌, Bool, true, false, not, ◌&&◌, ◌||◌, cond, List, [], ◌∷◌, length, get_or, refl, sym, ◌∙◌, ap, subst, ⊎_elim, arith, Option, Some, None}
use Rattle.std.proofs.Common.{eq-eqb}
use Rattle.std.specs.Prelude.{nat_lt, if◌then◌else◌, find, unwrap_or, Contains, IsPermutation}
use Rattle.std.specs.List.{list_any}
use Rattle.std.proofs.lemmas.Bool.Decides.{nat_tests}
use Rattle.std.proofs.lemmas.Bool.{cases_lt, cases_eq, false≢true}
use Rattle.std.proofs.lemmas.List.{get_or_default}
use Rattle.std.proofs.lemmas.List.Folds.{list_any_at, Any-from_list_any}
use Rattle.std.proofs.lemmas.List.Sorted.{list_any-IsPermutation, All-permutation, Contains-permutation, IsPermutation-sym}
use Rattle.reassembly_lane.specs.declared.answer.Answer.TheVariants as answer
use Rattle.reassembly_lane.specs.declared.answer.FragBad.TheVariants as bad
use Rattle.reassembly_lane.specs.declared.parts.Part.{Part}
use Rattle.reassembly_lane.specs.Parts.{start, past, holds, covered, end_of, end_if_covered, whole_end, first_of, datagram, longest, whole_answer, no_part}
use Rattle.reassembly_lane.specs.Datagrams.{StandsIn}
use Rattle.reassembly_lane.specs.Joined.{joined}
use Rattle.reassembly_lane.specs.Sound.{part_at, IsSound}
use Rattle.reassembly_lane.proofs.Covers.{reach, IsTight, end_of_last}
use Rattle.reassembly_lane.proofs.Joins.{datagram_is, joined_stands, joined_long}
use Rattle.reassembly_lane.proofs.Wholes.{reach_is_end, end_from_whole, covered_from_whole, tight_from_whole, first_is, joined_is, starts_at_0}

covered_same : (q ps : List Part) → IsPermutation q ps → (end : ℕ) → covered q end ≡ covered ps end
covered_same q ps m zero = refl
covered_same q ps m (suc end) =
    ap (λ (b : Bool). b && covered q end) (list_any-IsPermutation (holds end) q ps m)
    ∙ ap (λ (b : Bool). list_any (holds end) ps && b) (covered_same q ps m end)

-- ---- the end
abbrev pub ends_at : ℕ → Part → Bool
ends_at end part = not part.more && (past part == end)

pub end_any : (q : List Part) (end : ℕ) → end_of q ≡ Some end → list_any (ends_at end) q ≡ true
end_any [] end e = cc
end_any (p ∷ ps) end e = by_more p.more refl e (end_any ps end)
  where
    by_more : (b : Bool) → p.more ≡ b → (if b then end_of ps else Some (past p)) ≡ Some end → (end_of ps ≡ Some end → list_any (ends_at end) ps ≡ true) → (ends_at end p || list_any (ends_at end) ps) ≡ true
    by_more true h k ih = ap (λ (b : Bool). (not b && (past p == end)) || list_any (ends_at end) ps) h ∙ ih k
    by_more false h k ih =
        let same : past p ≡ end = cc in
        ap (λ (b : Bool). (not b && (past p == end)) || list_any (ends_at end) ps) h
        ∙ ap (λ (b : Bool). b || list_any (ends_at end) ps) (eq-eqb (past p) end same)

none_more : (q : List Part) → end_of q ≡ None → list_any (λ p. not p.more) q ≡ false
none_more [] e = refl
none_more (p ∷ ps) e = by_more p.more refl e (none_more ps)
  where
    by_more : (b : Bool) → p.more ≡ b → (if b then end_of ps else Some (past p)) ≡ None → (end_of ps ≡ None → list_any (λ p. not p.more) ps ≡ false) → (not p.more || list_any (λ p. not p.more) ps) ≡ false
    by_more true h k ih = ap (λ (b : Bool). not b || list_any (λ p. not p.more) ps) h ∙ ih k
    by_more false h k ih = cc

none_from_more : (q : List Part) → list_any (λ p. not p.more) q ≡ false → end_of q ≡ None
none_from_more [] e = refl
none_from_more (p ∷ ps) e = by_more p.more e (none_from_more ps)
  where
    by_more : (b : Bool) → (not b || list_any (λ p. not p.more) ps) ≡ false → (list_any (λ p. not p.more) ps ≡ false → end_of ps ≡ None) → (if b then end_of ps else Some (past p)) ≡ None
    by_more true h ih = ih h
    by_more false h ih = absurd (false≢true (sym h))

pub last_at : (n end : ℕ) (part : Part) → ends_at end part ≡ true → part.more ≡ false
last_at n end part h = grind (arith, nat_tests)

pub past_at : (end : ℕ) (part : Part) → ends_at end part ≡ true → past part ≡ end
past_at end part h = grind (arith, nat_tests)

-- among sound parts only the last one can be the datagram's last
end_found : (ps : List Part) → IsSound ps → (end i : ℕ) → i < length ps → ends_at end (part_at ps i) ≡ true → end_of ps ≡ Some end
end_found ps s end i l h =
    let m : (part_at ps i).more ≡ false = last_at 0 end (part_at ps i) h in
    ⊎_elim
    (λ (k : i + 1 < length ps). absurd (false≢true (sym m ∙ s.follows i k)))
    (λ (k : length ps ≤ i + 1).
    end_of_last ps i (omega arith) s.follows
    ∙ ap (λ (b : Bool). cond b None (Some (past (part_at ps i)))) m
    ∙ ap Some (past_at end (part_at ps i) h))
    (cases_lt (i + 1) (length ps))

pub any_index : (test : Part → Bool) (ps : List Part) → list_any test ps ≡ true → (i : ℕ) × (i < length ps) × (test (part_at ps i) ≡ true)
any_index test ps h =
    let a = Any-from_list_any test ps h in
    let e : get_or ps a.0 no_part ≡ a.1 = get_or_default ps a.0 no_part a.1 a.2 ∙ a.3 in
    (a.0, a.2, ap test e ∙ a.4)

pub end_same : (q ps : List Part) → IsSound ps → IsPermutation q ps → end_of q ≡ end_of ps
end_same q ps s m = by_end (end_of q) refl
  where
    by_end : (o : Option ℕ) → end_of q ≡ o → end_of q ≡ end_of ps
    by_end None e = e ∙ sym (none_from_more ps (sym (list_any-IsPermutation (λ p. not p.more) q ps m) ∙ none_more q e))
    by_end (Some end) e =
        let i = any_index (ends_at end) ps (sym (list_any-IsPermutation (ends_at end) q ps m) ∙ end_any q end e) in
        e ∙ sym (end_found ps s end i.0 i.1 i.2)

pub whole_same : (q ps : List Part) → IsSound ps → IsPermutation q ps → whole_end q ≡ whole_end ps
whole_same q ps s m = ap (end_if_covered q) (end_same q ps s m) ∙ by_end (end_of ps)
  where
    by_end : (o : Option ℕ) → end_if_covered q o ≡ end_if_covered ps o
    by_end None = refl
    by_end (Some end) = ap (λ (b : Bool). if b then Some end else None) (covered_same q ps m end)

-- ---- the datagram
pub datagram_same : (q ps : List Part) → IsSound ps → IsPermutation q ps → (end : ℕ) → whole_end ps ≡ Some end → datagram q end ≡ datagram ps end
datagram_same q ps s m end w =
    let t : IsTight ps = tight_from_whole ps s end w in
    let r : end ≡ reach ps (length ps) = reach_is_end ps s end (end_from_whole ps end w) in
    datagram_is (joined ps) q end (joined_long ps t ∙ sym r)
    (All-permutation (StandsIn (joined ps)) ps q (IsPermutation-sym q ps m) (joined_stands ps t))
    (covered_same q ps m end ∙ covered_from_whole ps end w)
    ∙ sym (joined_is ps s end w)

record IsFound (test : Part → Bool) (q : List Part) : Type 0 where
  part : Part
  passes : test part ≡ true
  stands : Contains q part
  is : find test q ≡ Some part

find_found : (test : Part → Bool) (q : List Part) → list_any test q ≡ true → IsFound test q
find_found test [] h = absurd (false≢true h)
find_found test (p ∷ ps) h = by_test (test p) refl h (find_found test ps)
  where
    by_test : (b : Bool) → test p ≡ b → (b || list_any test ps) ≡ true → (list_any test ps ≡ true → IsFound test ps) → IsFound test (p ∷ ps)
    by_test true e k ih = record { part = p; passes = e; stands = (0, omega arith, refl); is = ap (λ (b : Bool). cond b (Some p) (find test ps)) e }
    by_test false e k ih =
        let f : IsFound test ps = ih k in
        let c = f.stands in
        record { part = f.part; passes = f.passes; stands = (suc c.0, omega (arith, c.1), c.2); is = ap (λ (b : Bool). cond b (Some p) (find test ps)) e ∙ f.is }

holds_0 : (part : Part) → holds 0 part ≡ true → start part ≤ 0
holds_0 part h = grind (arith, nat_tests)

-- only the first of sound parts holds the datagram's first byte
only_first : (ps : List Part) → IsSound ps → (part : Part) → Contains ps part → holds 0 part ≡ true → part ≡ part_at ps 0
only_first ps s part c h =
    let at : get_or ps c.0 no_part ≡ part = get_or_default ps c.0 no_part part c.1 ∙ c.2 in
    let l : c.0 < length ps = c.1 in
    let low : start part ≤ 0 = holds_0 part h in
    ⊎_elim
    (λ (e : c.0 ≡ 0). sym at ∙ ap (part_at ps) e)
    (λ (ne : c.0 ≡ 0 → ⊥).
    let far : past (part_at ps 0) ≤ start (part_at ps c.0) = s.apart 0 c.0 (omega arith) l in
    let full : 0 < length (part_at ps 0).body = s.filled 0 (omega arith) in
    let low' : start (part_at ps c.0) ≤ 0 = subst (λ (x : Part). start x ≤ 0) (sym at) low in
    absurd (omega arith))
    (cases_eq c.0 0)

holds_first : (part : Part) → start part ≡ 0 → 0 < length part.body → holds 0 part ≡ true
holds_first part a b = grind (arith, nat_tests)

pub first_same : (q ps : List Part) → IsSound ps → IsPermutation q ps → (end : ℕ) → whole_end ps ≡ Some end → 0 < length ps → first_of q ≡ first_of ps
first_same q ps s m end w l =
    let st : start (part_at ps 0) ≡ 0 = starts_at_0 ps s end w l in
    let any : list_any (holds 0) q ≡ true = list_any-IsPermutation (holds 0) q ps m ∙ list_any_at (holds 0) ps 0 no_part l (holds_first (part_at ps 0) st (s.filled 0 l)) in
    let f : IsFound (holds 0) q = find_found (holds 0) q any in
    ap (λ (o : Option Part). unwrap_or o no_part) f.is
    ∙ only_first ps s f.part (Contains-permutation q ps f.part m f.stands) f.passes
    ∙ sym (first_is ps s end w)

pub answer_same : (q ps : List Part) → IsSound ps → IsPermutation q ps → (end : ℕ) → whole_end ps ≡ Some end → 0 < length ps → whole_answer q end ≡ whole_answer ps end
answer_same q ps s m end w l =
    ap (λ (p : Part). if nat_lt longest (p.extra + end) then answer.Refused bad.Long else answer.Whole p.head (datagram q end)) (first_same q ps s m end w l)
    ∙ ap (λ (d : List ℕ). if nat_lt longest ((first_of ps).extra + end) then answer.Refused bad.Long else answer.Whole (first_of ps).head d) (datagram_same q ps s m end w)
