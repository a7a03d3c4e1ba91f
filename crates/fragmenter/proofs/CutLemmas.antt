-- Lemmas on data cut into parts: there is one list of parts, it has its first part by computing, and is short.
use Rattle.std.proofs.Common.{◌≡◌, ◌≢◌, ℕ, zero, suc, ◌+◌, ◌-◌, ◌*◌, ◌<◌, ◌≤◌, Bool, true, false, List, [], ◌∷◌, ◌++◌, length, take, drop, nat_lt, refl, sym, ◌∙◌, ap, subst, arith, append_assoc, append-nil}
use Rattle.std.specs.Prelude.{if◌then◌else◌}
use Rattle.std.specs.List.{concat}
use Rattle.std.proofs.lemmas.List.{length-drop, length-append, length-take-le, take-append-drop, take_all, drop-drop}
use Rattle.std.proofs.lemmas.Bool.{ltb-false, ltb-true, lt-ltb}
use Rattle.std.proofs.lemmas.Bool.Decides.{nat_tests}
use Rattle.std.proofs.Math.Seq.{take-append_seam, drop-append_seam, drop-length}
use Rattle.fragmenter.specs.Cutting.{Room, IsPart, AreParts, are_there, packets_of, AreCut, parts_within, pieces_of, part_len}

-- two values under one test
pub both : {A : Type 0} (test : Bool) (a b c d : A) → (test ≡ true → a ≡ b) → (test ≡ false → c ≡ d) →
    (if test then a else c) ≡ (if test then b else d)
both true a b c d same other = same refl
both false a b c d same other = other refl

-- the rooms of a kind of packets: a part that others follow has something, and fits
pub record AreRooms (room : ℕ → Room) : Type 0 where
  pub least : (k : ℕ) → 1 ≤ (room k).middle
  pub fits : (k : ℕ) → (room k).middle ≤ (room k).last

few-by : (least : ℕ) (test : Bool) (a b : List ℕ) (rest : List (List ℕ)) (most : ℕ) →
    (test ≡ true → (1 + length rest) * least ≤ most) → 1 * least ≤ most →
    length (if test then a ∷ rest else b ∷ []) * least ≤ most
few-by least true a b rest most long short = omega (arith, long refl)
few-by least false a b rest most long short = omega arith

-- more is left behind a part exactly where it does not reach the end
more-same : (before len : ℕ) (body : List ℕ) → 1 ≤ length body →
    nat_lt 0 (length (drop len (drop before body))) ≡ nat_lt (before + len) (length body)
more-same before len body some =
    rw (length-drop len (drop before body), length-drop before body) (grind (arith, nat_tests))

there_by : (test : Bool) (a b : List ℕ) (rest : List (List ℕ)) → are_there (if test then a ∷ rest else b ∷ []) ≡ true
there_by true a b rest = refl
there_by false a b rest = refl

part_len-by : (r : Room) (left : List ℕ) (test : Bool) → r.middle ≤ r.last → nat_lt r.last (length left) ≡ test →
    (if test then r.middle else length left) ≤ length left
part_len-by r left true fits is = omega (arith, ltb-true r.last (length left) is)
part_len-by r left false fits is = omega arith

-- the next part is no longer than what is left
pub part_len-within : (r : Room) (left : List ℕ) → r.middle ≤ r.last → part_len r left ≤ length left
part_len-within r left fits = part_len-by r left (nat_lt r.last (length left)) fits refl

module _ (room : ℕ → Room) (rooms : AreRooms room) where
  -- counting more parts than there are bytes changes nothing
  pub parts-same : (n m before : ℕ) (left : List ℕ) → length left ≤ n → length left ≤ m →
      parts_within n room before left ≡ parts_within m room before left
  parts-same zero zero before left a b = refl
  parts-same zero (suc m) before [] a b = refl
  parts-same zero (suc m) before (x ∷ xs) a b = absurd (omega arith)
  parts-same (suc n) zero before [] a b = refl
  parts-same (suc n) zero before (x ∷ xs) a b = absurd (omega arith)
  parts-same (suc n) (suc m) before [] a b = refl
  parts-same (suc n) (suc m) before (x ∷ xs) a b =
      let middle = (room before).middle in
      let shorter : length (drop middle (x ∷ xs)) + 1 ≤ length (x ∷ xs) = omega (arith, length-drop middle (x ∷ xs), rooms.least before) in
      both (nat_lt (room before).last (length (x ∷ xs))) _ _ _ _
      (λ long. ap (λ (ps : List (List ℕ)). take middle (x ∷ xs) ∷ ps)
      (parts-same n m (before + middle) (drop middle (x ∷ xs)) (omega (arith, shorter)) (omega (arith, shorter))))
      (λ short. refl)

  pub parts-unfold : (n before : ℕ) (left : List ℕ) → 1 ≤ length left →
      parts_within (suc n) room before left ≡
      (if nat_lt (room before).last (length left) then
      take (room before).middle left ∷ parts_within n room (before + (room before).middle) (drop (room before).middle left)
      else left ∷ [])
  parts-unfold n before [] some = absurd (omega arith)
  parts-unfold n before (x ∷ xs) some = refl

  -- the first part, and the parts of what is left behind it
  abbrev HasStep : ℕ → List ℕ → ℕ → Type 0
  HasStep before left len =
      parts_within (length left) room before left
      ≡ take len left ∷ parts_within (length (drop len left)) room (before + len) (drop len left)

  step-long : (before : ℕ) (left : List ℕ) → 1 ≤ length left → nat_lt (room before).last (length left) ≡ true →
      HasStep before left (room before).middle
  step-long before [] some long = absurd (omega arith)
  step-long before (x ∷ xs) some long =
      let middle = (room before).middle in
      let rest = drop middle (x ∷ xs) in
      let shorter : length rest ≤ length xs = omega (arith, length-drop middle (x ∷ xs), rooms.least before) in
      rw long (ap (λ (ps : List (List ℕ)). take middle (x ∷ xs) ∷ ps) (parts-same (length xs) (length rest) (before + middle) rest shorter (omega arith)))

  step-short : (before : ℕ) (left : List ℕ) → 1 ≤ length left → nat_lt (room before).last (length left) ≡ false →
      HasStep before left (length left)
  step-short before [] some short = absurd (omega arith)
  step-short before (x ∷ xs) some short =
      let none : drop (length (x ∷ xs)) (x ∷ xs) ≡ [] = drop-length (x ∷ xs) in
      let all : take (length (x ∷ xs)) (x ∷ xs) ≡ x ∷ xs = take_all (length (x ∷ xs)) (x ∷ xs) (omega arith) in
      rw (short, none, all) refl

  step-by : (before : ℕ) (left : List ℕ) (test : Bool) → 1 ≤ length left → nat_lt (room before).last (length left) ≡ test →
      HasStep before left (if test then (room before).middle else length left)
  step-by before left true some is = step-long before left some is
  step-by before left false some is = step-short before left some is

  pub parts-step : (before : ℕ) (left : List ℕ) → 1 ≤ length left → HasStep before left (part_len (room before) left)
  parts-step before left some = step-by before left (nat_lt (room before).last (length left)) some refl

  -- a part is there exactly where a byte is
  pub there : (n before : ℕ) (left : List ℕ) → length left ≤ n → are_there (parts_within n room before left) ≡ nat_lt 0 (length left)
  there zero before [] within = refl
  there zero before (x ∷ xs) within = absurd (omega arith)
  there (suc n) before [] within = refl
  there (suc n) before (x ∷ xs) within =
      there_by (nat_lt (room before).last (length (x ∷ xs))) _ _ _ ∙ sym (lt-ltb 0 (length (x ∷ xs)) (omega arith))

  -- the first packet, and the packets of what is left behind it
  pub first-piece : (made : ℕ → Bool → List ℕ → List ℕ) (body : List ℕ) (before : ℕ) (len : ℕ) (more : Bool) → before < length body →
      len ≡ part_len (room before) (drop before body) → more ≡ nat_lt (before + len) (length body) →
      pieces_of room made before (drop before body)
      ≡ made before more (take len (drop before body)) ∷ pieces_of room made (before + len) (drop (before + len) body)
  first-piece made body before len more inside len_is more_is =
      let left = drop before body in
      let left_len : length left ≡ length body - before = length-drop before body in
      let within : len ≤ length left = omega (arith, part_len-within (room before) left (rooms.fits before)) in
      let rest = drop len left in
      let rest_is : rest ≡ drop (before + len) body = drop-drop len before body in
      let step : HasStep before left len = subst (HasStep before left) (sym len_is) (parts-step before left (omega arith)) in
      let tested : are_there (parts_within (length rest) room (before + len) rest) ≡ more =
      there (length rest) (before + len) rest (omega arith)
      ∙ more-same before len body (omega arith) ∙ sym more_is in
      let part_is : length (take len left) ≡ len = length-take-le len left within in
      ap (packets_of made before) step
      ∙ (λ i. made before (tested i) (take len left) ∷ packets_of made (before + part_is i) (parts_within (length rest) room (before + len) rest))
      ∙ ap (λ (l : List ℕ). made before more (take len left) ∷ pieces_of room made (before + len) l) rest_is

  -- there are no more parts than this
  pub few-parts : (least n before : ℕ) (left : List ℕ) → 1 ≤ least → ((k : ℕ) → least ≤ (room k).middle) →
      length (parts_within n room before left) * least ≤ length left + (least - 1)
  few-parts least zero before left some steps = omega arith
  few-parts least (suc n) before [] some steps = omega arith
  few-parts least (suc n) before (x ∷ xs) some steps =
      few-by least (nat_lt (room before).last (length (x ∷ xs))) _ _ _ (length (x ∷ xs) + (least - 1))
      (λ long. omega (
        arith,
        few-parts least n (before + (room before).middle) (drop (room before).middle (x ∷ xs)) some steps,
        length-drop (room before).middle (x ∷ xs),
        steps before,
        rooms.fits before,
        ltb-true (room before).last (length (x ∷ xs)) long,
      ))
      (omega arith)

  -- the parts are the data, and they fit
  pub record AreGood (before : ℕ) (left : List ℕ) (parts : List (List ℕ)) : Type 0 where
    pub joined : concat parts ≡ left
    pub fit : AreParts room before parts

  good-by : (before : ℕ) (left : List ℕ) (rest : List (List ℕ)) (test : Bool) → 1 ≤ length left →
      nat_lt (room before).last (length left) ≡ test →
      AreGood (before + (room before).middle) (drop (room before).middle left) rest →
      AreGood before left (if test then take (room before).middle left ∷ rest else left ∷ [])
  good-by before left rest true some long good =
      let middle = (room before).middle in
      let over = ltb-true (room before).last (length left) long in
      let len : length (take middle left) ≡ middle = length-take-le middle left (omega (arith, rooms.fits before)) in
      let joined : take middle left ++ concat rest ≡ left = ap (λ l. take middle left ++ l) good.joined ∙ take-append-drop middle left in
      let total : length (take middle left) + length (concat rest) ≡ length left = sym (length-append (take middle left) (concat rest)) ∙ ap length joined in
      let Fit : ℕ → Type 0 = λ k. AreParts room (before + k) rest in
      record {
        joined = joined;
        fit = (
          record {
            some = omega (arith, len, rooms.least before);
            last = λ h. absurd (omega (arith, total, over));
            middle = λ h. len;
          },
          subst Fit (sym len) good.fit,
        );
      }
  good-by before left rest false some short good =
      let fits = ltb-false (room before).last (length left) short in
      record {
        joined = append-nil left;
        fit = (record { some = some; last = λ h. refl; middle = λ h. absurd (omega arith) }, tt);
      }

  pub good-parts : (n before : ℕ) (left : List ℕ) → length left ≤ n → AreGood before left (parts_within n room before left)
  good-parts zero before [] within = record { joined = refl; fit = tt }
  good-parts zero before (x ∷ xs) within = absurd (omega arith)
  good-parts (suc n) before [] within = record { joined = refl; fit = tt }
  good-parts (suc n) before (x ∷ xs) within =
      let middle = (room before).middle in
      good-by before (x ∷ xs) (parts_within n room (before + middle) (drop middle (x ∷ xs))) (nat_lt (room before).last (length (x ∷ xs)))
      (omega arith) refl
      (good-parts n (before + middle) (drop middle (x ∷ xs)) (omega (arith, length-drop middle (x ∷ xs), rooms.least before)))

  only-by : (before : ℕ) (part after : List ℕ) (rest others : List (List ℕ)) (test : Bool) → IsPart (room before) part after →
      nat_lt (room before).last (length (part ++ after)) ≡ test → (after ≡ [] → rest ≡ []) →
      (length part ≡ (room before).middle → rest ≡ others) →
      part ∷ rest ≡ (if test then take (room before).middle (part ++ after) ∷ others else (part ++ after) ∷ [])
  only-by before part after rest others true is long none same =
      let over = ltb-true (room before).last (length (part ++ after)) long in
      let len : length part ≡ (room before).middle = is.middle (omega (arith, length-append part after)) in
      let first : take (room before).middle (part ++ after) ≡ part = ap (λ k. take k (part ++ after)) (sym len) ∙ take-append_seam part after in
      (λ i. sym first i ∷ same len i)
  only-by before part after rest others false is short none same =
      let fits = ltb-false (room before).last (length (part ++ after)) short in
      let last : after ≡ [] = is.last (omega (arith, length-append part after)) in
      let whole : part ++ after ≡ part = ap (λ l. part ++ l) last ∙ append-nil part in
      (λ i. sym whole i ∷ none last i)

  no-parts : (before : ℕ) (parts : List (List ℕ)) → AreParts room before parts → concat parts ≡ [] → parts ≡ []
  no-parts before [] fit is = refl
  no-parts before (part ∷ rest) fit is =
      let some = (fit.0).some in
      absurd (omega (arith, some, length-append part (concat rest), ap length is))

  pub only-parts : (n before : ℕ) (parts : List (List ℕ)) → AreParts room before parts → length (concat parts) ≤ n →
      parts ≡ parts_within n room before (concat parts)
  only-parts zero before [] fit within = refl
  only-parts (suc n) before [] fit within = refl
  only-parts zero before (part ∷ rest) fit within =
      absurd (omega (arith, (fit.0).some, length-append part (concat rest)))
  only-parts (suc n) before (part ∷ rest) fit within =
      let after = concat rest in
      let middle = (room before).middle in
      let some : 1 ≤ length (part ++ after) = omega (arith, (fit.0).some, length-append part after) in
      let later = only-parts n (before + length part) rest fit.1 (omega (arith, (fit.0).some, length-append part after)) in
      let others = parts_within n room (before + middle) (drop middle (part ++ after)) in
      only-by before part after rest others (nat_lt (room before).last (length (part ++ after))) fit.0 refl
      (λ none. no-parts (before + length part) rest fit.1 none)
      (λ len. later
      ∙ (λ i. parts_within n room (before + len i) after)
      ∙ ap (λ (l : List ℕ). parts_within n room (before + middle) l) (sym (ap (λ k. drop k (part ++ after)) (sym len) ∙ drop-append_seam part after)))
      ∙ sym (parts-unfold n before (part ++ after) some)

  -- exactly one list of packets carries the data
  pub one-cut : (made : ℕ → Bool → List ℕ → List ℕ) (whole : List ℕ) (list : List (List ℕ)) →
      AreCut room made whole list → list ≡ pieces_of room made 0 whole
  one-cut made whole list cut =
      cut.packets ∙ ap (packets_of made 0) (only-parts (length whole) 0 cut.parts cut.fit (omega (arith, ap length cut.joined))
      ∙ ap (λ (l : List ℕ). parts_within (length whole) room 0 l) cut.joined)

  pub is-cut : (made : ℕ → Bool → List ℕ → List ℕ) (whole : List ℕ) (list : List (List ℕ)) →
      list ≡ pieces_of room made 0 whole → AreCut room made whole list
  is-cut made whole list is =
      let good = good-parts (length whole) 0 whole (omega arith) in
      record { parts = parts_within (length whole) room 0 whole; joined = good.joined; fit = good.fit; packets = is }

pub length-packets : (made : ℕ → Bool → List ℕ → List ℕ) (before : ℕ) (parts : List (List ℕ)) →
    length (packets_of made before parts) ≡ length parts
length-packets made before [] = refl
length-packets made before (part ∷ rest) = ap suc (length-packets made (before + length part) rest)

-- where packets are left, bytes are
pub some-bytes : (room : ℕ → Room) (made : ℕ → Bool → List ℕ → List ℕ) (before : ℕ) (left : List ℕ) → pieces_of room made before left ≢ [] →
    1 ≤ length left
some-bytes room made before [] some = absurd (some refl)
some-bytes room made before (x ∷ xs) some = omega arith

-- one more list behind those that were appended
pub appended : (out l old new b : List ℕ) → old ≡ out ++ l → new ≡ old ++ b → new ≡ out ++ (l ++ b)
appended out l old new b first second = second ∙ ap (λ x. x ++ b) first ∙ append_assoc out l b
