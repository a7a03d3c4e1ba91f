-- The distinct pieces of a datagram with one more, and why they are refused.
use Rattle.std.proofs.Common.{◌≡◌, ◌+◌, ◌<◌, ◌≤◌, Bool, true, false, ◌&&◌, ◌||◌, List, [], ◌∷◌, ◌++◌, length, take, refl, sym, ◌∙◌, ap, ⊎_elim, arith, Option, Some, None}
use Rattle.std.specs.Prelude.{if◌then◌else◌, nat_le, nat_lt}
use Rattle.std.specs.List.{list_any}
use Rattle.std.proofs.lemmas.Bool.Decides.{nat_tests}
use Rattle.std.proofs.lemmas.Bool.{cases_lt, le-leb, lt-leb, leb-false}
use Rattle.std.proofs.lemmas.List.{take_all, take-append-le, length_push}
use Rattle.std.proofs.lemmas.List.Folds.{list_any-append}
use Rattle.std.proofs.lemmas.List.Sums.{fold_push}
use Rattle.reassembly_lane.specs.declared.answer.FragBad.{FragBad}
use Rattle.reassembly_lane.specs.declared.answer.FragBad.TheVariants as bad
use Rattle.reassembly_lane.specs.declared.parts.Part.{Part}
use Rattle.reassembly_lane.specs.Parts.{start, past, is_same, overlap, ends_before, clash}
use Rattle.reassembly_lane.specs.History.{unless_repeat, distinct, clash_within, refusal}

pub distinct_push : (pieces : List Part) (p : Part) → distinct (pieces ++ p ∷ []) ≡ unless_repeat (distinct pieces) p
distinct_push pieces p = fold_push unless_repeat [] pieces p

pub repeat_push : (kept : List Part) (p : Part) → list_any (λ o. is_same o p) kept ≡ true → unless_repeat kept p ≡ kept
repeat_push kept p h = ap (λ (b : Bool). if b then kept else kept ++ p ∷ []) h

pub new_push : (kept : List Part) (p : Part) → list_any (λ o. is_same o p) kept ≡ false → unless_repeat kept p ≡ kept ++ p ∷ []
new_push kept p h = ap (λ (b : Bool). if b then kept else kept ++ p ∷ []) h

-- ---- clashes
or_comm : (a b : Bool) → (a || b) ≡ (b || a)
or_comm true true = refl
or_comm true false = refl
or_comm false true = refl
or_comm false false = refl

and_comm : (a b : Bool) → (a && b) ≡ (b && a)
and_comm true true = refl
and_comm true false = refl
and_comm false true = refl
and_comm false false = refl

or_assoc : (a b c : Bool) → ((a || b) || c) ≡ (a || (b || c))
or_assoc true b c = refl
or_assoc false b c = refl

or_false : (a : Bool) → (a || false) ≡ a
or_false true = refl
or_false false = refl

pub clash_sym : (a b : Part) → clash a b ≡ clash b a
clash_sym a b =
    or_assoc (overlap a b) (ends_before a b) (ends_before b a)
    ∙ ap (λ (x : Bool). x || (ends_before a b || ends_before b a)) (and_comm (nat_lt (start a) (past b)) (nat_lt (start b) (past a)))
    ∙ ap (λ (x : Bool). overlap b a || x) (or_comm (ends_before a b) (ends_before b a))
    ∙ sym (or_assoc (overlap b a) (ends_before b a) (ends_before a b))

-- with one more piece, two clash where two did or it clashes with one
pub clash_push : (ps : List Part) (p : Part) → clash_within (ps ++ p ∷ []) ≡ (clash_within ps || list_any (clash p) ps)
clash_push [] p = refl
clash_push (x ∷ xs) p =
    ap (λ (b : Bool). b || clash_within (xs ++ p ∷ [])) (list_any-append (clash x) xs (p ∷ []) ∙ ap (λ (b : Bool). list_any (clash x) xs || b) (or_false (clash x p) ∙ clash_sym x p))
    ∙ ap (λ (b : Bool). (list_any (clash x) xs || clash p x) || b) (clash_push xs p)
    ∙ swapped (list_any (clash x) xs) (clash p x) (clash_within xs) (list_any (clash p) xs)
  where
    swapped : (a b c d : Bool) → ((a || b) || (c || d)) ≡ ((a || c) || (b || d))
    swapped true b c d = refl
    swapped false true true d = refl
    swapped false true false d = refl
    swapped false false true d = refl
    swapped false false false d = refl

-- ---- refusals
abbrev by_tests : Bool → Bool → Option FragBad
by_tests a b = if a then Some bad.Overlap else if b then Some bad.Many else None

-- what it means that distinct pieces are not refused
pub record IsWaiting (q : List Part) : Type 0 where
  pub apart : clash_within q ≡ false
  pub few : length q < 257

pub waiting_from_none : (q : List Part) → refusal q ≡ None → IsWaiting q
waiting_from_none q h = by_bools (clash_within (take 257 q)) (nat_le 257 (length q)) refl refl h
  where
    by_bools : (a b : Bool) → clash_within (take 257 q) ≡ a → nat_le 257 (length q) ≡ b → by_tests a b ≡ None → IsWaiting q
    by_bools true b e f k = cc
    by_bools false true e f k = cc
    by_bools false false e f k =
        let few : length q < 257 = leb-false 257 (length q) f in
        record { apart = ap clash_within (sym (take_all 257 q (omega arith))) ∙ e; few = few }

-- refused pieces stay refused, for the same reason
pub refusal_stays : (q : List Part) (p : Part) (why : FragBad) → refusal q ≡ Some why → refusal (q ++ p ∷ []) ≡ Some why
refusal_stays q p why h =
    ⊎_elim
    (λ (l : length q < 257). by_clash (clash_within q) refl (leb_is l) h)
    (λ (l : 257 ≤ length q).
    let n : length (q ++ p ∷ []) ≡ length q + 1 = length_push q p in
    ap (λ (s : List Part). by_tests (clash_within s) (nat_le 257 (length (q ++ p ∷ [])))) (take-append-le 257 q (p ∷ []) l)
    ∙ ap (by_tests (clash_within (take 257 q))) (le-leb 257 (length (q ++ p ∷ [])) (omega arith) ∙ sym (le-leb 257 (length q) l))
    ∙ h)
    (cases_lt (length q) 257)
  where
    leb_is : length q < 257 → nat_le 257 (length q) ≡ false
    leb_is l = lt-leb 257 (length q) l

    by_clash : (a : Bool) → clash_within q ≡ a → nat_le 257 (length q) ≡ false → refusal q ≡ Some why → refusal (q ++ p ∷ []) ≡ Some why
    by_clash true e f k =
        let few : length q < 257 = leb-false 257 (length q) f in
        let n : length (q ++ p ∷ []) ≡ length q + 1 = length_push q p in
        ap (λ (s : List Part). by_tests (clash_within s) (nat_le 257 (length (q ++ p ∷ [])))) (take_all 257 (q ++ p ∷ []) (omega arith))
        ∙ ap (λ (a : Bool). by_tests a (nat_le 257 (length (q ++ p ∷ [])))) (clash_push q p ∙ ap (λ (a : Bool). a || list_any (clash p) q) e)
        ∙ sym (ap (λ (s : List Part). by_tests (clash_within s) (nat_le 257 (length q))) (take_all 257 q (omega arith)) ∙ ap (λ (a : Bool). by_tests a (nat_le 257 (length q))) e)
        ∙ k
    by_clash false e f k =
        let few : length q < 257 = leb-false 257 (length q) f in
        absurd (no_refusal (sym (ap (λ (s : List Part). by_tests (clash_within s) (nat_le 257 (length q))) (take_all 257 q (omega arith)) ∙ ap (λ (a : Bool). by_tests a (nat_le 257 (length q))) e ∙ ap (by_tests false) f) ∙ k))
      where
        no_refusal : None ≡ Some why → ⊥
        no_refusal z = cc

-- a new piece of pieces that are not refused
pub refusal_push : (q : List Part) (p : Part) → IsWaiting q → refusal (q ++ p ∷ []) ≡ (if list_any (clash p) q then Some bad.Overlap else if nat_le 256 (length q) then Some bad.Many else None)
refusal_push q p w =
    let few : length q < 257 = w.few in
    let n : length (q ++ p ∷ []) ≡ length q + 1 = length_push q p in
    ap (λ (s : List Part). by_tests (clash_within s) (nat_le 257 (length (q ++ p ∷ [])))) (take_all 257 (q ++ p ∷ []) (omega arith))
    ∙ ap (λ (a : Bool). by_tests a (nat_le 257 (length (q ++ p ∷ [])))) (clash_push q p ∙ ap (λ (a : Bool). a || list_any (clash p) q) w.apart)
    ∙ ap (by_tests (list_any (clash p) q)) (one_more n)
  where
    one_more : length (q ++ p ∷ []) ≡ length q + 1 → nat_le 257 (length (q ++ p ∷ [])) ≡ nat_le 256 (length q)
    one_more n = ap (nat_le 257) n ∙ grind (arith, nat_tests)
