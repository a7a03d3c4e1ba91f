-- What the records of a round write is what a course writes that has their outcomes and their marks.
use Rattle.std.proofs.Common.{◌≡◌, ℕ, suc, ◌+◌, Bool, true, false, not, if◌then◌else◌, List, [], ◌∷◌, ◌++◌, length, drop, flat_map, get_or, Some, slice_get, sym, ◌∙◌, ap, refl, subst, arith}
use Rattle.aftr_text.specs.declared.summaries.Totals.{Totals}
use Rattle.aftr_text.specs.Lines.{ended_text}
use Rattle.capture_io.specs.Packets.{packet_bytes}
use Rattle.capture_io.specs.Record.{nanoseconds}
use Rattle.capture_io.specs.declared.forms.Form.{Form}
use Rattle.capture_io.specs.declared.forms.Rec.{Rec}
use Rattle.capture_io.specs.declared.written.Written.{Written}
use Rattle.ip_codec.specs.declared.items.Item.{Item}
use Rattle.item_stage.specs.Items.{items_in}
use Rattle.item_stage.specs.declared.entries.Entry.{Entry}
use Rattle.run_output.specs.Cells.{cells, counted, lines_of, limited_by, packets_of, time_if, times_by}
use Rattle.run_output.specs.Counting.{totals_from, with_record}
use Rattle.run_output.specs.Limiting.{Told, passed_in, tells, times_of, told_from, told_if}
use Rattle.run_output.specs.Outputs.{Course, lines_from, packets_from, record_text, sent_at, sent_unless, verdict_at}
use Rattle.run_output.specs.Rendering.{HasOutcomes}
use Rattle.worker_gate.specs.declared.outcomes.Outcome.{Outcome}
use Rattle.verdict_core.specs.declared.verdicts.Verdict.{Verdict}

-- the outcomes and marks of records, from a number on, are those of the course
pub record IsOne (c : Course) (n : ℕ) (e : Entry) (o : Outcome) (l : Bool) : Type 0 where
  pub version : o.version ≡ c.version n
  pub verdict : o.verdict ≡ verdict_at c n e.item
  pub limited : l ≡ c.limited n

abbrev pub Matches : Course → ℕ → List Entry → List Outcome → List Bool → Type 0
Matches c n (e ∷ es) (o ∷ os) (l ∷ ls) = IsOne c n e o l × Matches c (n + 1) es os ls
Matches c n [] [] [] = Unit {0}
Matches c n _ _ _ = ⊥

pub packets_are : (c : Course) (w : Written) (n : ℕ) (rs : List Rec) (es : List Entry) (os : List Outcome) (ls : List Bool) → length es ≡ length rs → Matches c n es os ls →
    flat_map (packets_of w) (cells n rs es os ls) ≡ packets_from c w n rs es
packets_are c w n [] es os ls same are = refl
packets_are c w n (r ∷ rs) [] os ls same are = absurd (omega (arith, same))
packets_are c w n (r ∷ rs) (e ∷ es) [] ls same are = absurd are
packets_are c w n (r ∷ rs) (e ∷ es) (o ∷ os) [] same are = absurd are
packets_are c w n (r ∷ rs) (e ∷ es) (o ∷ os) (l ∷ ls) same are =
    let rest = packets_are c w (n + 1) rs es os ls (omega (arith, same)) are.1 in
    λ j. flat_map (packet_bytes w r.seconds r.fraction) (sent_unless (are.0.limited j) e.item (are.0.verdict j) n) ++ rest j

pub lines_are : (c : Course) (n : ℕ) (rs : List Rec) (es : List Entry) (os : List Outcome) (ls : List Bool) → length es ≡ length rs → Matches c n es os ls →
    flat_map lines_of (cells n rs es os ls) ≡ lines_from c n es
lines_are c n [] [] os ls same are = refl
lines_are c n [] (e ∷ es) os ls same are = absurd (omega (arith, same))
lines_are c n (r ∷ rs) [] os ls same are = absurd (omega (arith, same))
lines_are c n (r ∷ rs) (e ∷ es) [] ls same are = absurd are
lines_are c n (r ∷ rs) (e ∷ es) (o ∷ os) [] same are = absurd are
lines_are c n (r ∷ rs) (e ∷ es) (o ∷ os) (l ∷ ls) same are =
    let rest = lines_are c (n + 1) rs es os ls (omega (arith, same)) are.1 in
    λ j. (flat_map (ended_text true) e.ended ++ record_text (are.0.limited j) n (are.0.version j) (are.0.verdict j) (length (sent_unless (are.0.limited j) e.item (are.0.verdict j) n))) ++ rest j

pub counts_are : (c : Course) (totals : Totals) (n : ℕ) (rs : List Rec) (es : List Entry) (os : List Outcome) (ls : List Bool) → length es ≡ length rs → Matches c n es os ls →
    counted totals (cells n rs es os ls) ≡ totals_from c totals n es
counts_are c totals n [] [] os ls same are = refl
counts_are c totals n [] (e ∷ es) os ls same are = absurd (omega (arith, same))
counts_are c totals n (r ∷ rs) [] os ls same are = absurd (omega (arith, same))
counts_are c totals n (r ∷ rs) (e ∷ es) [] ls same are = absurd are
counts_are c totals n (r ∷ rs) (e ∷ es) (o ∷ os) [] same are = absurd are
counts_are c totals n (r ∷ rs) (e ∷ es) (o ∷ os) (l ∷ ls) same are =
    (λ j. counted (with_record totals (are.0.verdict j) (length (sent_unless (are.0.limited j) e.item (are.0.verdict j) n))) (cells (n + 1) rs es os ls))
    ∙ counts_are c (with_record totals (verdict_at c n e.item) (length (sent_at c n e.item))) (n + 1) rs es os ls (omega (arith, same)) are.1

not_not : (b : Bool) → not (not b) ≡ b
not_not true = refl
not_not false = refl

-- a record without an error is not limited
not_limited : (limited error : Bool) → (limited ≡ true → error ≡ true) → error ≡ false → limited ≡ false
not_limited true error only is = absurd (cc (only refl, is))
not_limited false error only is = refl

-- the first mark, and the others
record IsMark (c : Course) (n : ℕ) (rest marks : List Bool) (error : Bool) : Type 0 where
  pub first : (if error then not (get_or marks 0 true) else false) ≡ c.limited n
  pub others : (if error then drop 1 marks else marks) ≡ rest

mark_is : (c : Course) (n time : ℕ) (told : List Told) (error : Bool) → (error ≡ false → c.limited n ≡ false) →
    IsMark c n (passed_in c told) (passed_in c (told_if error n time ++ told)) error
mark_is c n time told true none = record { first = not_not (c.limited n); others = refl }
mark_is c n time told false none = record { first = sym (none refl); others = refl }

-- the marks of a course are those of the records
pub matches_of : (c : Course) (form : Form) (n : ℕ) (rs : List Rec) (es : List Entry) (os : List Outcome) → length es ≡ length rs → length os ≡ length es → HasOutcomes c n es os →
    ((k : ℕ) (i : Item) → slice_get (items_in es) k ≡ Some i → c.limited (n + k) ≡ true → tells (verdict_at c (n + k) i) ≡ true) →
    Matches c n es os (limited_by os (passed_in c (told_from c form n rs es)))
matches_of c form n [] [] [] same many has errors = tt
matches_of c form n [] [] (o ∷ os) same many has errors = absurd (omega (arith, many))
matches_of c form n [] (e ∷ es) os same many has errors = absurd (omega (arith, same))
matches_of c form n (r ∷ rs) [] os same many has errors = absurd (omega (arith, same))
matches_of c form n (r ∷ rs) (e ∷ es) [] same many has errors = absurd (omega (arith, many))
matches_of c form n (r ∷ rs) (e ∷ es) (o ∷ os) same many has errors =
    let here : n + 0 ≡ n = omega arith in
    let number : o.number ≡ n = has.numbers 0 o refl ∙ here in
    let version : o.version ≡ c.version n = has.versions 0 o refl ∙ ap c.version number in
    let verdict : o.verdict ≡ verdict_at c n e.item = has.verdicts 0 o e.item refl refl ∙ ap (λ (k : ℕ). verdict_at c k e.item) number in
    let error : Bool = tells (verdict_at c n e.item) in
    let only : c.limited n ≡ true → error ≡ true =
    subst (λ (k : ℕ). c.limited k ≡ true → tells (verdict_at c k e.item) ≡ true) here (errors 0 e.item refl) in
    let told : List Told = told_from c form (n + 1) rs es in
    let mark : IsMark c n (passed_in c told) (passed_in c (told_from c form n (r ∷ rs) (e ∷ es))) (tells o.verdict) =
    subst (λ (v : Verdict). IsMark c n (passed_in c told) (passed_in c (told_from c form n (r ∷ rs) (e ∷ es))) (tells v)) (sym verdict)
    (mark_is c n (nanoseconds form r.seconds r.fraction) told error (not_limited (c.limited n) error only)) in
    let rest : Matches c (n + 1) es os (limited_by os (passed_in c told)) =
    matches_of c form (n + 1) rs es os (omega (arith, same)) (omega (arith, many)) (tail_of c n e o es os has) (λ k i is.
    let place : n + suc k ≡ n + 1 + k = omega arith in
    subst (λ (m : ℕ). c.limited m ≡ true → tells (verdict_at c m i) ≡ true) place (errors (suc k) i is)) in (
      record { version = version; verdict = verdict; limited = mark.first },
      subst (λ (l : List Bool). Matches c (n + 1) es os (limited_by os l)) (sym mark.others) rest,
    ) where
      tail_of : (c : Course) (n : ℕ) (e : Entry) (o : Outcome) (es : List Entry) (os : List Outcome) → HasOutcomes c n (e ∷ es) (o ∷ os) → HasOutcomes c (n + 1) es os
      tail_of c n e o es os has = record {
        numbers = λ k p is.
            let place : n + suc k ≡ n + 1 + k = omega arith in has.numbers (suc k) p is ∙ place;
        versions = λ k p is. has.versions (suc k) p is;
        verdicts = λ k p i is at. has.verdicts (suc k) p i is at;
      }

-- the times of a course's errors are those of the records
pub times_are : (c : Course) (form : Form) (n : ℕ) (rs : List Rec) (es : List Entry) (os : List Outcome) → length es ≡ length rs → length os ≡ length es → HasOutcomes c n es os →
    times_of (told_from c form n rs es) ≡ times_by form rs os
times_are c form n [] es os same many has = refl
times_are c form n (r ∷ rs) [] os same many has = absurd (omega (arith, same))
times_are c form n (r ∷ rs) (e ∷ es) [] same many has = absurd (omega (arith, many))
times_are c form n (r ∷ rs) (e ∷ es) (o ∷ os) same many has =
    let here : n + 0 ≡ n = omega arith in
    let number : o.number ≡ n = has.numbers 0 o refl ∙ here in
    let verdict : o.verdict ≡ verdict_at c n e.item = has.verdicts 0 o e.item refl refl ∙ ap (λ (k : ℕ). verdict_at c k e.item) number in
    let time : ℕ = nanoseconds form r.seconds r.fraction in
    times_if (tells (verdict_at c n e.item)) n time (told_from c form (n + 1) rs es)
    ∙ ((λ j. time_if (tells (sym verdict j)) time ++ times_of (told_from c form (n + 1) rs es))
    ∙ ap (λ l. time_if (tells o.verdict) time ++ l) (times_are c form (n + 1) rs es os (omega (arith, same)) (omega (arith, many)) (record {
      numbers = λ k p is.
          let place : n + suc k ≡ n + 1 + k = omega arith in has.numbers (suc k) p is ∙ place;
      versions = λ k p is. has.versions (suc k) p is;
      verdicts = λ k p i is at. has.verdicts (suc k) p i is at;
    }))) where
      times_if : (error : Bool) (n time : ℕ) (told : List Told) → times_of (told_if error n time ++ told) ≡ time_if error time ++ times_of told
      times_if true n time told = refl
      times_if false n time told = refl
