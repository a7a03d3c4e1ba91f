-- Bytes that are no bracket begin no header, in whatever part of a text they stand, and a bracket with a short header behind it begins
-- none that is long.
use Rattle.std.proofs.Common.{◌≡◌, ℕ, zero, suc, ◌+◌, ◌<◌, ◌≤◌, ◌==◌, nat_lt, Bool, true, false, ◌&&◌, List, [], ◌∷◌, length, drop, slice_index, if◌then◌else◌, refl, sym, subst, arith}
use Rattle.std.proofs.lemmas.Bool.{le-ltb, eqb-true, false_from_ne_true}
use Rattle.std.proofs.lemmas.List.{drop_all, drop_more}
use Rattle.memchr.specs.Find.{Nowhere, NoneBefore, Passes, is_byte}
use Rattle.table_costs.specs.Costs.{has_long_header, header_weight, most_header, part_after, seen, seen_as}
use Rattle.table_costs.specs.Costs.{IsShortHeader}
use Rattle.table_costs.specs.declared.parts.Part.{Part}
use Rattle.table_costs.specs.declared.parts.Part.TheVariants as part
use Rattle.table_costs.proofs.FewerMarks.{neither}

-- no header is long, in whatever part the bytes begin
abbrev pub AreShort : List ℕ → Type 0
AreShort bs = (p : Part) → has_long_header (seen p bs) ≡ false

none_short : AreShort []
none_short p = refl

unseen_or : (same : Bool) (b : ℕ) → (b == 91) ≡ false → ((if same then 34 else b) == 91) ≡ false
unseen_or true b other = refl
unseen_or false b other = other

unseen : (p : Part) (b : ℕ) → (b == 91) ≡ false → (seen_as p b == 91) ≡ false
unseen part.Plain b other = other
unseen part.Comment b other = refl
unseen (part.Opened m) b other = refl
unseen (part.Line m) b other = refl
unseen part.Escaped b other = refl
unseen (part.Twice m) b other = unseen_or (b == m) b other
unseen (part.Lines m) b other = refl
unseen (part.LinesOnce m) b other = refl
unseen (part.LinesTwice m) b other = refl
unseen part.LinesEscaped b other = refl
unseen (part.Ended m) b other = unseen_or (b == m) b other
unseen (part.EndedOnce m) b other = unseen_or (b == m) b other

first_false : (a b : Bool) → a ≡ false → (a && b) ≡ false
first_false true b is = absurd cc
first_false false b is = refl

passed : (b : ℕ) (bs : List ℕ) → (b == 91) ≡ false → AreShort bs → AreShort (b ∷ bs)
passed b bs other short p =
    let after : List ℕ = seen (part_after p b) bs in
    neither (seen_as p b == 91 && nat_lt most_header (header_weight after)) (has_long_header after)
    (first_false (seen_as p b == 91) (nat_lt most_header (header_weight after)) (unseen p b other)) (short (part_after p b))

skipped : (bs : List ℕ) (k : ℕ) → ((j : ℕ) → j < k → (slice_index bs j == 91) ≡ false) → AreShort (drop k bs) → AreShort bs
skipped bs zero before short = short
skipped [] (suc k) before short = none_short
skipped (b ∷ bs) (suc k) before short = passed b bs (before 0 (omega arith)) (skipped bs k (λ j less. before (suc j) (omega (arith, less))) short)

ends_soon : (after : List ℕ) → header_weight after ≤ most_header → nat_lt most_header (header_weight after) ≡ false
ends_soon after few = le-ltb most_header (header_weight after) few

begun_plain : (bs : List ℕ) → IsShortHeader bs → AreShort bs → has_long_header (91 ∷ seen part.Plain bs) ≡ false
begun_plain bs header short =
    neither (nat_lt most_header (header_weight (seen part.Plain bs))) (has_long_header (seen part.Plain bs))
    (ends_soon (seen part.Plain bs) header) (short part.Plain)

begun_or : (same : Bool) (p : Part) (bs : List ℕ) → IsShortHeader bs → AreShort bs →
    has_long_header ((if same then 34 else 91) ∷ seen (if same then p else part.Plain) bs) ≡ false
begun_or true p bs header short = short p
begun_or false p bs header short = begun_plain bs header short

begun_short : (bs : List ℕ) → IsShortHeader bs → AreShort bs → AreShort (91 ∷ bs)
begun_short bs header short part.Plain = begun_plain bs header short
begun_short bs header short part.Comment = short part.Comment
begun_short bs header short (part.Opened m) = short (part_after (part.Opened m) 91)
begun_short bs header short (part.Line m) = short (part_after (part.Line m) 91)
begun_short bs header short part.Escaped = short (part.Line 34)
begun_short bs header short (part.Twice m) = begun_or (91 == m) (part.Lines m) bs header short
begun_short bs header short (part.Lines m) = short (part_after (part.Lines m) 91)
begun_short bs header short (part.LinesOnce m) = short (part_after (part.LinesOnce m) 91)
begun_short bs header short (part.LinesTwice m) = short (part_after (part.LinesTwice m) 91)
begun_short bs header short part.LinesEscaped = short (part.Lines 34)
begun_short bs header short (part.Ended m) = begun_or (91 == m) (part.EndedOnce m) bs header short
begun_short bs header short (part.EndedOnce m) = begun_or (91 == m) part.Plain bs header short

-- without a bracket no header is long
pub no_bracket : (bs : List ℕ) → Nowhere (Passes (is_byte 91) bs) 0 (length bs) → AreShort bs
no_bracket bs nowhere =
    skipped bs (length bs) (λ j less. false_from_ne_true (slice_index bs j == 91) (nowhere j (omega arith) less))
    (subst AreShort (sym (drop_all (length bs) bs (omega arith))) none_short)

-- up to the first bracket no header is long, and none is where that of the bracket and those behind it are short
pub first_bracket : (bs : List ℕ) (k : ℕ) → NoneBefore (Passes (is_byte 91) bs) 0 (length bs) k → Passes (is_byte 91) bs k →
    IsShortHeader (drop (k + 1) bs) → AreShort (drop (k + 1) bs) → AreShort bs
first_bracket bs k first here header short =
    let is : slice_index bs k ≡ 91 = eqb-true (slice_index bs k) 91 here in
    let opened : AreShort (slice_index bs k ∷ drop (k + 1) bs) = subst (λ b. AreShort (b ∷ drop (k + 1) bs)) (sym is) (begun_short (drop (k + 1) bs) header short) in
    skipped bs k (λ j less. false_from_ne_true (slice_index bs j == 91) (first.before j (omega arith) less))
    (subst AreShort (sym (drop_more bs k 0 first.high)) opened)
