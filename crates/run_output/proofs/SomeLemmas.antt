-- There is a course that keeps back just the errors that a limiter did not let through.
use Rattle.std.proofs.Common.{◌≡◌, ℕ, zero, suc, ◌+◌, ◌<◌, ◌≤◌, ◌==◌, Bool, true, false, not, if◌then◌else◌, List, [], ◌∷◌, ◌++◌, length, map, Some, slice_get, sym, ◌∙◌, ap, refl, subst, arith}
use Rattle.std.proofs.lemmas.Bool.{ne_eqb, eq-eqb}
use Rattle.std.proofs.lemmas.List.{length-map}
use Rattle.capture_io.specs.Record.{nanoseconds}
use Rattle.capture_io.specs.declared.forms.Form.{Form}
use Rattle.capture_io.specs.declared.forms.Rec.{Rec}
use Rattle.ip_codec.specs.declared.items.Item.{Item}
use Rattle.item_stage.specs.Items.{items_in}
use Rattle.item_stage.specs.declared.entries.Entry.{Entry}
use Rattle.run_output.specs.Laws.{LimitsAreSome}
use Rattle.run_output.specs.Limiting.{AreSent, Told, passed_in, rate_of, tells, times_of, told_from, told_if}
use Rattle.run_output.specs.Outputs.{Course, verdict_at}
use Rattle.run_output.proofs.LimitLemmas.{asked_sent, sent_size}

-- whether the error of the record with this number was not let through
abbrev marked_in : List Told → List Bool → ℕ → Bool
marked_in (t ∷ ts) (m ∷ ms) number = if number == t.number then not m else marked_in ts ms number
marked_in _ _ number = false

abbrev with_limits : Course → (ℕ → Bool) → Course
with_limits c limited = record { tables = c.tables; version = c.version; limited = limited; loaded = c.loaded }

told_same : (c : Course) (limited : ℕ → Bool) (form : Form) (n : ℕ) (rs : List Rec) (es : List Entry) → told_from (with_limits c limited) form n rs es ≡ told_from c form n rs es
told_same c limited form n [] es = refl
told_same c limited form n (r ∷ rs) [] = refl
told_same c limited form n (r ∷ rs) (e ∷ es) =
    ap (λ (l : List Told). told_if (tells (verdict_at c n e.item)) n (nanoseconds form r.seconds r.fraction) ++ l) (told_same c limited form (n + 1) rs es)

-- the numbers of errors ascend
abbrev Above : ℕ → List Told → Type 0
Above n [] = Unit {0}
Above n (t ∷ ts) = (n ≤ t.number) × Above (t.number + 1) ts

above_less : (n m : ℕ) (ts : List Told) → n ≤ m → Above m ts → Above n ts
above_less n m [] less above = tt
above_less n m (t ∷ ts) less above = (omega (arith, less, above.0), above.1)

told_above : (c : Course) (form : Form) (n : ℕ) (rs : List Rec) (es : List Entry) → Above n (told_from c form n rs es)
told_above c form n [] es = tt
told_above c form n (r ∷ rs) [] = tt
told_above c form n (r ∷ rs) (e ∷ es) =
    one_above (tells (verdict_at c n e.item)) n (nanoseconds form r.seconds r.fraction) (told_from c form (n + 1) rs es) (told_above c form (n + 1) rs es) where
      one_above : (error : Bool) (n time : ℕ) (ts : List Told) → Above (n + 1) ts → Above n (told_if error n time ++ ts)
      one_above true n time ts above = (omega arith, above)
      one_above false n time ts above = above_less n (n + 1) ts (omega arith) above

-- a number below all of them is not marked
below_marked : (m n : ℕ) (ts : List Told) (ms : List Bool) → Above m ts → n < m → marked_in ts ms n ≡ false
below_marked m n [] ms above less = refl
below_marked m n (t ∷ ts) [] above less = refl
below_marked m n (t ∷ ts) (b ∷ ms) above less =
    let other : (n == t.number) ≡ false = ne_eqb n t.number (λ is. absurd (omega (arith, is, less, above.0))) in
    ap (λ (test : Bool). if test then not b else marked_in ts ms n) other
    ∙ below_marked (t.number + 1) n ts ms above.1 (omega (arith, less, above.0))

-- the first error's mark is of no other
others_marked : (t : Told) (b : Bool) (ts : List Told) (ms : List Bool) (us : List Told) → Above (t.number + 1) us →
    map (λ u. not (marked_in (t ∷ ts) (b ∷ ms) u.number)) us ≡ map (λ u. not (marked_in ts ms u.number)) us
others_marked t b ts ms [] above = refl
others_marked t b ts ms (u ∷ us) above =
    let other : (u.number == t.number) ≡ false = ne_eqb u.number t.number (λ is. absurd (omega (arith, is, above.0))) in
    let rest = others_marked t b ts ms us (above_less (t.number + 1) (u.number + 1) us (omega (arith, above.0)) above.1) in
    λ j. not (if other j then not b else marked_in ts ms u.number) ∷ rest j

not_not : (b : Bool) → not (not b) ≡ b
not_not true = refl
not_not false = refl

marks_back : (m : ℕ) (ts : List Told) (ms : List Bool) → Above m ts → length ms ≡ length ts → map (λ t. not (marked_in ts ms t.number)) ts ≡ ms
marks_back m [] [] above same = refl
marks_back m [] (b ∷ ms) above same = absurd (omega (arith, same))
marks_back m (t ∷ ts) [] above same = absurd (omega (arith, same))
marks_back m (t ∷ ts) (b ∷ ms) above same =
    let self : (t.number == t.number) ≡ true = eq-eqb t.number t.number refl in
    let first : not (if t.number == t.number then not b else marked_in ts ms t.number) ≡ b =
    ap (λ (test : Bool). not (if test then not b else marked_in ts ms t.number)) self ∙ not_not b in
    let rest = others_marked t b ts ms ts above.1 ∙ marks_back (t.number + 1) ts ms above.1 (omega (arith, same)) in
    λ j. first j ∷ rest j

-- a record without an error is not marked
not_marked : (c : Course) (form : Form) (n : ℕ) (rs : List Rec) (es : List Entry) (ms : List Bool) (k : ℕ) (i : Item) → slice_get (items_in es) k ≡ Some i →
    tells (verdict_at c (n + k) i) ≡ false → marked_in (told_from c form n rs es) ms (n + k) ≡ false
not_marked c form n [] es ms k i at none = refl
not_marked c form n (r ∷ rs) [] ms k i at none = absurd (cc at)
not_marked c form n (r ∷ rs) (e ∷ es) ms zero i at none =
    let item_is : e.item ≡ i = cc at in
    let here : n + 0 ≡ n = omega arith in
    let silent : tells (verdict_at c n e.item) ≡ false =
    ap (λ (x : Item). tells (verdict_at c n x)) item_is ∙ (sym (ap (λ (m : ℕ). tells (verdict_at c m i)) here) ∙ none) in
    let rest : List Told = told_from c form (n + 1) rs es in
    ap (λ (b : Bool). marked_in (told_if b n (nanoseconds form r.seconds r.fraction) ++ rest) ms (n + 0)) silent
    ∙ below_marked (n + 1) (n + 0) rest ms (told_above c form (n + 1) rs es) (omega arith)
not_marked c form n (r ∷ rs) (e ∷ es) ms (suc k) i at none =
    let place : n + suc k ≡ n + 1 + k = omega arith in
    let rest : (xs : List Bool) → marked_in (told_from c form (n + 1) rs es) xs (n + suc k) ≡ false =
    λ xs. ap (marked_in (told_from c form (n + 1) rs es) xs) place
    ∙ not_marked c form (n + 1) rs es xs k i at (ap (λ (m : ℕ). tells (verdict_at c m i)) (sym place) ∙ none) in
    by_error (tells (verdict_at c n e.item)) n (nanoseconds form r.seconds r.fraction) (n + suc k) (told_from c form (n + 1) rs es) ms (omega arith) rest where
      by_error : (error : Bool) (n time number : ℕ) (ts : List Told) (ms : List Bool) → n < number → ((xs : List Bool) → marked_in ts xs number ≡ false) →
          marked_in (told_if error n time ++ ts) ms number ≡ false
      by_error true n time number ts [] less rest = refl
      by_error true n time number ts (b ∷ ms) less rest =
          let other : (number == n) ≡ false = ne_eqb number n (λ is. absurd (omega (arith, is, less))) in
          ap (λ (test : Bool). if test then not b else marked_in ts ms number) other ∙ rest ms
      by_error false n time number ts ms less rest = rest ms

if_not_false : (b : Bool) (limited : Bool) → (b ≡ false → limited ≡ false) → limited ≡ true → b ≡ true
if_not_false true limited none is = refl
if_not_false false limited none is = absurd (cc (none refl, is))

pub limits_are_there : LimitsAreSome
limits_are_there form rs es c limit same asked =
    let told : List Told = told_from c form 0 rs es in
    let sent : List Bool = asked.0 in
    let d : Course = with_limits c (marked_in told sent) in
    let are : AreSent (rate_of limit) (times_of told) sent = asked_sent limit (times_of told) sent asked.1 in
    let size : length sent ≡ length told = sent_size (rate_of limit) (times_of told) sent are ∙ length-map told (λ t. t.time) in
    let passed : passed_in d told ≡ sent = marks_back 0 told sent (told_above c form 0 rs es) size in
    let here : AreSent (rate_of limit) (times_of told) (passed_in d told) = subst (AreSent (rate_of limit) (times_of told)) (sym passed) are in
    let P : List Told → Type 0 = λ l. AreSent (rate_of limit) (times_of l) (passed_in d l) in
    record {
      course = d;
      same = record { tables = refl; version = refl; loaded = refl };
      limited = record {
        errors = λ number i at is. if_not_false (tells (verdict_at c number i)) (marked_in told sent number)
            (λ none. ap (marked_in told sent) (zero_add number) ∙ not_marked c form 0 rs es sent number i at (ap (λ (m : ℕ). tells (verdict_at c m i)) (sym (zero_add number)) ∙ none)) is;
        sent = subst P (sym (told_same c (marked_in told sent) form 0 rs es)) here;
      };
    } where
      zero_add : (n : ℕ) → n ≡ 0 + n
      zero_add n = omega arith
