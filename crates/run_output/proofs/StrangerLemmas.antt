-- What a change of the tables leaves alone.
use Rattle.std.proofs.Common.{◌≡◌, ℕ, zero, suc, ◌+◌, Bool, true, false, not, List, [], ◌∷◌, ◌++◌, length, replicate, None, Some, refl, sym, ◌∙◌, ap, subst, arith}
use Rattle.std.specs.Prelude.{flat_map, slice_get}
use Rattle.capture_io.specs.Packets.{file_head, packet_bytes}
use Rattle.capture_io.specs.Record.{nanoseconds}
use Rattle.capture_io.specs.declared.forms.Form.{Form}
use Rattle.capture_io.specs.declared.forms.Rec.{Rec}
use Rattle.capture_io.specs.declared.written.Written.{Written}
use Rattle.ip_codec.specs.declared.items.Item.{Item}
use Rattle.item_stage.specs.Items.{entries_of, items_in}
use Rattle.item_stage.specs.Turns.{entries_from, no_rows, turn}
use Rattle.item_stage.specs.declared.entries.Entry.{Entry}
use Rattle.item_stage.specs.declared.rows.Rows.{Rows}
use Rattle.run_output.specs.Limiting.{IsLimited, Told, passed_in, tells, times_of, told_from, told_if}
use Rattle.run_output.specs.Outputs.{Course, output_of, packets_from, sent_at, sent_unless, verdict_at}
use Rattle.run_output.specs.Strangers.{AreAlikeThere, AreTreatedAlike, HaveAlikeTables}
use Rattle.verdict_core.proofs.Alike.{verdict_alike}
use Rattle.verdict_core.specs.declared.verdicts.Verdict.{Verdict}

pub treated_alike : (c d : Course) (number : ℕ) (i : Item) → AreAlikeThere c d number i → AreTreatedAlike c d number i
treated_alike c d number i alike =
    let v : verdict_at c number i ≡ verdict_at d number i = verdict_alike (c.tables (c.version number)) (d.tables (d.version number)) i alike.tables.lawful alike.tables.lawful_too alike.tables.alike in
    let l = alike.limited in
    record { verdict = v; packets = λ j. sent_unless (l j) i (v j) number }

-- entries from a number on
abbrev EachAlike : Course → Course → ℕ → List Entry → Type 0
EachAlike c d number [] = Unit {0}
EachAlike c d number (e ∷ es) = AreAlikeThere c d number e.item × EachAlike c d (number + 1) es

packets_alike : (c d : Course) (w : Written) (number : ℕ) (rs : List Rec) (es : List Entry) → EachAlike c d number es →
    packets_from c w number rs es ≡ packets_from d w number rs es
packets_alike c d w number [] es each = refl
packets_alike c d w number (r ∷ rs) [] each = refl
packets_alike c d w number (r ∷ rs) (e ∷ es) each =
    let here = (treated_alike c d number e.item each.0).packets in
    let later = packets_alike c d w (number + 1) rs es each.1 in
    λ j. flat_map (packet_bytes w r.seconds r.fraction) (here j) ++ later j

each_alike : (c d : Course) (number : ℕ) (es : List Entry) →
    ((at : ℕ) (i : Item) → slice_get (items_in es) at ≡ Some i → AreAlikeThere c d (number + at) i) → EachAlike c d number es
each_alike c d number [] alike = tt
each_alike c d number (e ∷ es) alike = (
  subst (λ (n : ℕ). AreAlikeThere c d n e.item) (omega arith) (alike 0 e.item refl),
  each_alike c d (number + 1) es
      (λ at i there. let same : number + suc at ≡ (number + 1) + at = omega arith in subst (λ (n : ℕ). AreAlikeThere c d n i) same (alike (suc at) i there)),
)

pub outputs_stay : (c d : Course) (w : Written) (form : Form) (rs : List Rec) →
    ((number : ℕ) (i : Item) → slice_get (items_in (entries_of form rs)) number ≡ Some i → AreAlikeThere c d number i) →
    output_of c w form rs ≡ output_of d w form rs
outputs_stay c d w form rs alike =
    let each = each_alike c d 0 (entries_of form rs) (λ at i there. let same : at ≡ 0 + at = omega arith in subst (λ (n : ℕ). AreAlikeThere c d n i) same (alike at i there)) in
    ap (λ (packets : List ℕ). file_head w ++ packets) (packets_alike c d w 0 rs (entries_of form rs) each)

-- ---- without a limit
not_true : (b : Bool) → not b ≡ true → b ≡ false
not_true true e = absurd cc
not_true false e = refl

-- all errors are sent, and those behind the first one are
record AllSent (c : Course) (told : List Told) : Type 0 where
  is : passed_in c told ≡ replicate (length (times_of told)) true

first_sent : (c : Course) (number time : ℕ) (told : List Told) → AllSent c (told_if true number time ++ told) → (c.limited number ≡ false) × AllSent c told
first_sent c number time told all =
    let is : not (c.limited number) ∷ passed_in c told ≡ true ∷ replicate (length (times_of told)) true = all.is in
    let here : not (c.limited number) ≡ true = cc in
    let rest : passed_in c told ≡ replicate (length (times_of told)) true = cc in
    (not_true (c.limited number) here, record { is = rest })

unlimited : (c : Course) (form : Form) (number : ℕ) (rs : List Rec) (es : List Entry) → length es ≡ length rs → AllSent c (told_from c form number rs es) →
    (at : ℕ) (i : Item) → slice_get (items_in es) at ≡ Some i → tells (verdict_at c (number + at) i) ≡ true → c.limited (number + at) ≡ false
unlimited c form number rs [] same all at i there told = absurd cc
unlimited c form number [] (e ∷ es) same all at i there told = absurd (omega (arith, same))
unlimited c form number (r ∷ rs) (e ∷ es) same all at i there told =
    by_tells (tells (verdict_at c number e.item)) refl all at there told
    (λ rest more later its. unlimited c form (number + 1) rs es (omega (arith, same)) rest more i later its)
  where
    by_tells : (b : Bool) → tells (verdict_at c number e.item) ≡ b → AllSent c (told_if b number (nanoseconds form r.seconds r.fraction) ++ told_from c form (number + 1) rs es) →
        (at : ℕ) → slice_get (items_in (e ∷ es)) at ≡ Some i → tells (verdict_at c (number + at) i) ≡ true →
        (AllSent c (told_from c form (number + 1) rs es) → (more : ℕ) → slice_get (items_in es) more ≡ Some i →
        tells (verdict_at c ((number + 1) + more) i) ≡ true → c.limited ((number + 1) + more) ≡ false) → c.limited (number + at) ≡ false
    by_tells true e1 all zero there told rest =
        let same : number ≡ number + 0 = omega arith in
        subst (λ (n : ℕ). c.limited n ≡ false) same (first_sent c number (nanoseconds form r.seconds r.fraction) (told_from c form (number + 1) rs es) all).0
    by_tells false e1 all zero there told rest =
        let this : e.item ≡ i = cc in
        let same : number + 0 ≡ number = omega arith in
        let its : tells (verdict_at c number e.item) ≡ true = ap (λ (x : Item). tells (verdict_at c number x)) this ∙ (ap (λ (n : ℕ). tells (verdict_at c n i)) (sym same) ∙ told) in
        absurd cc
    by_tells true e1 all (suc at) there told rest =
        let same : (number + 1) + at ≡ number + suc at = omega arith in
        subst (λ (n : ℕ). c.limited n ≡ false) same
        (rest (first_sent c number (nanoseconds form r.seconds r.fraction) (told_from c form (number + 1) rs es) all).1 at there
        (ap (λ (n : ℕ). tells (verdict_at c n i)) same ∙ told))
    by_tells false e1 all (suc at) there told rest =
        let same : (number + 1) + at ≡ number + suc at = omega arith in
        subst (λ (n : ℕ). c.limited n ≡ false) same (rest all at there (ap (λ (n : ℕ). tells (verdict_at c n i)) same ∙ told))

entries_len : (form : Form) (rows : Rows) (number : ℕ) (rs : List Rec) → length (entries_from form rows number rs) ≡ length rs
entries_len form rows number [] = refl
entries_len form rows number (r ∷ rs) = ap suc (entries_len form (turn form rows number r).rows (suc number) rs)

never_limited : (form : Form) (rs : List Rec) (c : Course) → IsLimited None form rs (entries_of form rs) c →
    (number : ℕ) (i : Item) → slice_get (items_in (entries_of form rs)) number ≡ Some i → c.limited number ≡ false
never_limited form rs c limited number i there = by_test (c.limited number) refl
  where
    by_test : (b : Bool) → c.limited number ≡ b → c.limited number ≡ false
    by_test false e = e
    by_test true e =
        let same : number ≡ 0 + number = omega arith in
        subst (λ (n : ℕ). c.limited n ≡ false) (sym same)
        (unlimited c form 0 rs (entries_of form rs) (entries_len form no_rows 0 rs) (record { is = limited.sent }) number i there
        (subst (λ (n : ℕ). tells (verdict_at c n i) ≡ true) same (limited.errors number i there e)))

pub outputs_stay_unlimited : (c d : Course) (w : Written) (form : Form) (rs : List Rec) →
    IsLimited None form rs (entries_of form rs) c → IsLimited None form rs (entries_of form rs) d →
    ((number : ℕ) (i : Item) → slice_get (items_in (entries_of form rs)) number ≡ Some i → HaveAlikeTables c d number i) →
    output_of c w form rs ≡ output_of d w form rs
outputs_stay_unlimited c d w form rs first second alike =
    outputs_stay c d w form rs (λ number i there. record {
      tables = alike number i there;
      limited = never_limited form rs c first number i there ∙ sym (never_limited form rs d second number i there);
    })
