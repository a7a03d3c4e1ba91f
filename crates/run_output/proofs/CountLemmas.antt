-- Counts, added part by part.
use Rattle.std.proofs.Common.{◌≡◌, ℕ, suc, ◌+◌, ◌*◌, ◌^◌, ◌<◌, ◌≤◌, false, List, [], ◌∷◌, ◌++◌, All, length, drop, sym, ◌∙◌, ap, refl, subst, arith, length-append}
use Rattle.std.proofs.lemmas.List.{drop-drop, drop_all, take-append-drop}
use Rattle.aftr_text.specs.declared.summaries.Totals.{Totals}
use Rattle.std.specs.Prelude.{slice_index_or}
use Rattle.run_output.specs.Cells.{AreCounted, ArePartsUnless, Cell, IsPart, chunk, counted, packets_sent, plus}
use Rattle.run_output.specs.Counting.{IsWithin, no_totals, with_record}
use Rattle.capture_io.specs.declared.written.Written.{Written}
use Rattle.run_output.specs.declared.parts.Part.{Part}
use Rattle.verdict_core.specs.declared.verdicts.Verdict.{Verdict}

-- totals of equal counts
pub same_totals : (a b : Totals) → a.records ≡ b.records → a.held ≡ b.held → a.forwarded ≡ b.forwarded → a.dropped ≡ b.dropped → a.packets ≡ b.packets → a.version ≡ b.version → a ≡ b
same_totals a b records held forwarded dropped packets version = λ j. record {
  records = records j;
  held = held j;
  forwarded = forwarded j;
  dropped = dropped j;
  packets = packets j;
  version = version j;
}

-- one record more, and then totals, is the totals with one record more
plus_record : (a b : Totals) (v : Verdict) (packets : ℕ) → plus (with_record a v packets) b ≡ plus a (with_record b v packets)
plus_record a b v packets = same_totals (plus (with_record a v packets) b) (plus a (with_record b v packets)) (omega arith) (omega arith) (omega arith) (omega arith) (omega arith) refl

counted_on : (a b : Totals) (cs : List Cell) → counted (plus a b) cs ≡ plus a (counted b cs)
counted_on a b [] = refl
counted_on a b (c ∷ cs) =
    let one : with_record (plus a b) c.verdict (length (packets_sent c)) ≡ plus a (with_record b c.verdict (length (packets_sent c))) =
    same_totals (with_record (plus a b) c.verdict (length (packets_sent c))) (plus a (with_record b c.verdict (length (packets_sent c)))) (omega arith) (omega arith) (omega arith) (omega arith) (omega arith) refl in
    ap (λ t. counted t cs) one ∙ counted_on a (with_record b c.verdict (length (packets_sent c))) cs

plus_none : (a : Totals) → plus a no_totals ≡ a
plus_none a = same_totals (plus a no_totals) a (omega arith) (omega arith) (omega arith) (omega arith) (omega arith) refl

-- counting on from some totals is counting from none, and adding
pub counted_plus : (a : Totals) (cs : List Cell) → counted a cs ≡ plus a (counted no_totals cs)
counted_plus a cs = ap (λ t. counted t cs) (sym (plus_none a)) ∙ counted_on a no_totals cs

pub counted_append : (a : Totals) (cs ds : List Cell) → counted a (cs ++ ds) ≡ counted (counted a cs) ds
counted_append a [] ds = refl
counted_append a (c ∷ cs) ds = counted_append (with_record a c.verdict (length (packets_sent c))) cs ds

-- the totals of two are within the sum of their numbers
pub plus_within : (a b : Totals) (n m : ℕ) → IsWithin a n → IsWithin b m → IsWithin (plus a b) (n + m)
plus_within a b n m x y = record {
  records = omega (arith, x.records, y.records);
  held = omega (arith, x.held, y.held);
  forwarded = omega (arith, x.forwarded, y.forwarded);
  dropped = omega (arith, x.dropped, y.dropped);
  packets = omega (arith, x.packets, y.packets);
}

-- before the first part
pub counted_first : (size : ℕ) (cs : List Cell) (number : ℕ) (before : Totals) → IsWithin before number → AreCounted size cs number 0 before before
counted_first size cs number before within =
    let none : 0 * size ≡ 0 = omega arith in
    record {
      reached = number;
      within = within;
      left = ap (λ (k : ℕ). number + length (drop k cs)) none;
      totals = ap (λ (k : ℕ). counted before (drop k cs)) none;
    }

-- what is left behind a part
left_behind : (size place : ℕ) (cs : List Cell) → chunk size place cs ++ drop (suc place * size) cs ≡ drop (place * size) cs
left_behind size place cs =
    let more : suc place * size ≡ place * size + size = omega arith in
    ap (λ (k : ℕ). chunk size place cs ++ drop k cs) more
    ∙ (ap (λ l. chunk size place cs ++ l) (sym (drop-drop size (place * size) cs)) ∙ take-append-drop size (drop (place * size) cs))

-- one part more
pub counted_more : (w : Written) (size : ℕ) (cs : List Cell) (number i : ℕ) (before now next : Totals) (p : Part) →
    AreCounted size cs number i before now → IsPart w (chunk size i cs) p → next ≡ plus now p.counted → AreCounted size cs number (suc i) before next
counted_more w size cs number i before now next p are part is =
    let ds : List Cell = chunk size i cs in
    let rest : List Cell = drop (suc i * size) cs in
    let whole : ds ++ rest ≡ drop (i * size) cs = left_behind size i cs in
    let here : next ≡ counted now ds = is ∙ (ap (plus now) part.counts ∙ sym (counted_plus now ds)) in
    let within : IsWithin (plus now p.counted) (are.reached + length ds) = plus_within now p.counted are.reached (length ds) are.within part.within in
    record {
      reached = are.reached + length ds;
      within = subst (λ (t : Totals). IsWithin t (are.reached + length ds)) (sym is) within;
      left = omega (arith, are.left, ap length whole, length-append ds rest);
      totals = ap (λ t. counted t rest) here ∙ (sym (counted_append now ds rest) ∙ (ap (counted now) whole ∙ are.totals));
    }

-- behind the last part
pub counted_last : (size : ℕ) (cs : List Cell) (number i : ℕ) (before now : Totals) → length cs ≤ i * size → AreCounted size cs number i before now →
    (now ≡ counted before cs) × IsWithin now (number + length cs)
counted_last size cs number i before now few are =
    let none : drop (i * size) cs ≡ [] = drop_all (i * size) cs few in
    let reached : are.reached ≡ number + length cs = omega (arith, are.left, ap length none) in
    (sym (ap (counted now) none) ∙ are.totals, subst (IsWithin now) reached are.within)

-- one part more, where its counts were added without an end of their types
pub counted_on_part : (w : Written) (size : ℕ) (cs : List Cell) (number i : ℕ) (before now next : Totals) (parts : List Part) (d : Part) →
    ArePartsUnless w size cs parts → All (λ (x : Part). x.failed ≡ false) parts → i < length parts → number + length cs ≤ 2 ^ 31 →
    ((n more : ℕ) → IsWithin now n → IsWithin (slice_index_or parts i d).counted more → n + more ≤ 2 ^ 31 → next ≡ plus now (slice_index_or parts i d).counted) →
    AreCounted size cs number i before now → AreCounted size cs number (i + 1) before next
counted_on_part w size cs number i before now next parts d are whole inside few sum counted_so =
    let p : Part = slice_index_or parts i d in
    let part : IsPart w (chunk size i cs) p = are i d inside (whole i d inside) in
    let bound : counted_so.reached + length (chunk size i cs) ≤ 2 ^ 31 =
    omega (arith, few, counted_so.left, ap length (left_behind size i cs), length-append (chunk size i cs) (drop (suc i * size) cs)) in
    let place : suc i ≡ i + 1 = omega arith in
    subst (λ (k : ℕ). AreCounted size cs number k before next) place
    (counted_more w size cs number i before now next p counted_so part (sum counted_so.reached (length (chunk size i cs)) counted_so.within part.within bound))
