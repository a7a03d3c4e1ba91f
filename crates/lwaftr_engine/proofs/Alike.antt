-- Two courses that agree on the first records, and what these records write by both.
use Rattle.lwaftr_engine.proofs.Words.{◌≡◌, ℕ, zero, suc, ◌+◌, ◌<◌, ◌≤◌, Bool, true, false, not, List, [], ◌∷◌, ◌++◌, length, flat_map, Option, Some}
use Rattle.lwaftr_engine.proofs.Words.{slice_get, refl, sym, ◌∙◌, ap, arith, ended_text, packet_bytes, nanoseconds, Form, Rec, Written, Item, entries_of}
use Rattle.lwaftr_engine.proofs.Words.{items_in, rows_of, entries_from, no_rows, rows_after, turn, Entry, Rows, IsLimited, passed_in, tells, told_from}
use Rattle.lwaftr_engine.proofs.Words.{told_if, Course, lines_from, packets_from, record_text, sent_unless, verdict_at, verdict_of}
use Rattle.run_output.specs.Limiting.{Told}

-- the entries of records do not depend on what comes behind them
pub entries_count : (form : Form) (rows : Rows) (number : ℕ) (rs : List Rec) → length (entries_from form rows number rs) ≡ length rs
entries_count form rows number [] = refl
entries_count form rows number (r ∷ rs) = ap suc (entries_count form (turn form rows number r).rows (suc number) rs)

entries_split : (form : Form) (rows : Rows) (number : ℕ) (rs more : List Rec) →
    entries_from form rows number (rs ++ more) ≡ entries_from form rows number rs ++ entries_from form (rows_after form rows number rs) (number + length rs)
    more
entries_split form rows number [] more = let same : number ≡ number + 0 = omega arith in ap (λ (n : ℕ). entries_from form rows n more) same
entries_split form rows number (r ∷ rs) more =
    let same : suc number + length rs ≡ number + suc (length rs) = omega arith in
    ap (λ (es : List Entry). (turn form rows number r).entry ∷ es) (entries_split form (turn form rows number r).rows (suc number) rs more
    ∙ ap (λ (n : ℕ). entries_from form (turn form rows number r).rows (suc number) rs ++ entries_from form
    (rows_after form (turn form rows number r).rows (suc number) rs) n more) same)

abbrev pub entries_behind : Form → List Rec → List Rec → List Entry
entries_behind form rs more = entries_from form (rows_of form rs) (0 + length rs) more

pub entries_are : (form : Form) (rs more : List Rec) → entries_of form (rs ++ more) ≡ entries_of form rs ++ entries_behind form rs more
entries_are form rs more = entries_split form no_rows 0 rs more

-- the two courses have the same tables, versions and marks below this number
pub record AreAlike (c d : Course) (end : ℕ) : Type 0 where
  pub tables : d.tables ≡ c.tables
  pub version : (number : ℕ) → number < end → d.version number ≡ c.version number
  pub limited : (number : ℕ) → number < end → d.limited number ≡ c.limited number

module _ (c d : Course) (end : ℕ) (alike : AreAlike c d end) where
  pub verdict_same : (number : ℕ) (i : Item) → number < end → verdict_at d number i ≡ verdict_at c number i
  verdict_same number i inside = let v = alike.version number inside in λ j. verdict_of (alike.tables j (v j)) i

  pub packets_same : (w : Written) (number : ℕ) (rs : List Rec) (es : List Entry) → number + length rs ≤ end →
      packets_from d w number rs es ≡ packets_from c w number rs es
  packets_same w number (r ∷ rs) (e ∷ es) inside =
      let v = verdict_same number e.item (omega (arith, inside)) in
      let l = alike.limited number (omega (arith, inside)) in
      let rest = packets_same w (number + 1) rs es (omega (arith, inside)) in
      λ j. flat_map (packet_bytes w r.seconds r.fraction) (sent_unless (l j) e.item (v j) number) ++ rest j
  packets_same w number _ _ inside = refl

  pub lines_same : (number : ℕ) (es : List Entry) → number + length es ≤ end → lines_from d number es ≡ lines_from c number es
  lines_same number [] inside = refl
  lines_same number (e ∷ es) inside =
      let v = verdict_same number e.item (omega (arith, inside)) in
      let n = alike.version number (omega (arith, inside)) in
      let l = alike.limited number (omega (arith, inside)) in
      let rest = lines_same (number + 1) es (omega (arith, inside)) in
      λ j. (flat_map (ended_text true) e.ended ++ record_text (l j) number (n j) (v j) (length (sent_unless (l j) e.item (v j) number))) ++ rest j

  told_same : (form : Form) (number : ℕ) (rs : List Rec) (es : List Entry) → number + length rs ≤ end →
      told_from d form number rs es ≡ told_from c form number rs es
  told_same form number (r ∷ rs) (e ∷ es) inside =
      let v = verdict_same number e.item (omega (arith, inside)) in
      let rest = told_same form (number + 1) rs es (omega (arith, inside)) in
      λ j. told_if (tells (v j)) number (nanoseconds form r.seconds r.fraction) ++ rest j
  told_same form number _ _ inside = refl

  -- the marks of errors below the end
  passed_if : (error : Bool) (number time : ℕ) (ts : List Told) → number < end → passed_in d ts ≡ passed_in c ts →
      passed_in d (told_if error number time ++ ts) ≡ passed_in c (told_if error number time ++ ts)
  passed_if true number time ts inside rest = let l = alike.limited number inside in λ j. not (l j) ∷ rest j
  passed_if false number time ts inside rest = rest

  passed_same : (form : Form) (number : ℕ) (rs : List Rec) (es : List Entry) → number + length rs ≤ end →
      passed_in d (told_from c form number rs es) ≡ passed_in c (told_from c form number rs es)
  passed_same form number (r ∷ rs) (e ∷ es) inside =
      passed_if (tells (verdict_at c number e.item)) number (nanoseconds form r.seconds r.fraction) (told_from c form (number + 1) rs es)
      (omega (arith, inside)) (passed_same form (number + 1) rs es (omega (arith, inside)))
  passed_same form number _ _ inside = refl

  got_inside : (es : List Entry) (number : ℕ) (i : Item) → slice_get (items_in es) number ≡ Some i → number < length es
  got_inside [] number i is = absurd (cc is)
  got_inside (e ∷ es) zero i is = omega arith
  got_inside (e ∷ es) (suc number) i is = omega (arith, got_inside es number i is)

  -- a limit on the errors of one is one on those of the other
  pub limited_same : (rate : Option ℕ) (form : Form) (rs : List Rec) (es : List Entry) → length rs ≤ end → length es ≤ end → IsLimited rate form rs es c →
      IsLimited rate form rs es d
  limited_same rate form rs es few count limited =
      let told = told_same form 0 rs es (omega (arith, few)) in
      let passed = passed_same form 0 rs es (omega (arith, few)) in
      record {
        errors = λ number i at is.
            let inside : number < end = omega (arith, got_inside es number i at, count) in
            ap tells (verdict_same number i inside) ∙ limited.errors number i at (sym (alike.limited number inside) ∙ is);
        sent = rw told (rw passed limited.sent);
      }
