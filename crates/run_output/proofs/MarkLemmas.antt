-- The limit, asked record by record.
use Rattle.std.proofs.Common.{◌≡◌, ℕ, zero, suc, Bool, true, false, not, if◌then◌else◌, List, [], ◌∷◌, ◌++◌, length, drop, get_or, Option, Some, None, slice_get, sym, ◌∙◌, ap, refl, subst, append_assoc, append-nil}
use Rattle.std.proofs.Math.Seq.{drop-length}
use Rattle.std.specs.Prelude.{is_some, replicate}
use Rattle.capture_io.specs.Record.{nanoseconds}
use Rattle.capture_io.specs.declared.forms.Form.{Form}
use Rattle.capture_io.specs.declared.forms.Rec.{Rec}
use Rattle.error_limit.specs.Limits.{Bucket, Stands}
use Rattle.run_output.specs.Cells.{AreMarked, HasMarked, limited_by, time_if, times_by}
use Rattle.run_output.specs.Limiting.{WasAsked, tells}
use Rattle.worker_gate.specs.declared.outcomes.Outcome.{Outcome}

-- where there is no limit, one error more is sent
pub none_more : (times : List ℕ) (sent : List Bool) (time : ℕ) → sent ≡ replicate (length times) true → sent ++ true ∷ [] ≡ replicate (length (times ++ time ∷ [])) true
none_more times sent time is = ap (λ l. l ++ true ∷ []) is ∙ one_more times time where
  one_more : (times : List ℕ) (time : ℕ) → replicate (length times) true ++ true ∷ [] ≡ replicate (length (times ++ time ∷ [])) true
  one_more [] time = refl
  one_more (t ∷ times) time = ap (λ (l : List Bool). true ∷ l) (one_more times time)

-- before the first record
pub marked_first : (form : Form) (rs : List Rec) (os : List Outcome) (limit : Option Bucket) → HasMarked form rs os 0 limit limit []
marked_first form rs os limit times sent asked = record {
  told = [];
  news = [];
  asked = subst (λ (l : List ℕ). WasAsked limit l (sent ++ [])) (sym (append-nil times)) (subst (λ (l : List Bool). WasAsked limit times l) (sym (append-nil sent)) asked);
  told_left = refl;
  limited_left = λ later. refl;
}

-- what stands at an index is the first of the rest
pub record_there : (records : List Rec) (i : ℕ) (r : Rec) → slice_get records i ≡ Some r → drop i records ≡ r ∷ drop (suc i) records
record_there [] i r there = absurd (cc there)
record_there (x ∷ xs) zero r there = ap (λ (k : Rec). k ∷ xs) (cc there)
record_there (x ∷ xs) (suc i) r there = record_there xs i r there

pub outcome_there : (outcomes : List Outcome) (i : ℕ) (o : Outcome) → slice_get outcomes i ≡ Some o → drop i outcomes ≡ o ∷ drop (suc i) outcomes
outcome_there [] i o there = absurd (cc there)
outcome_there (x ∷ xs) zero o there = ap (λ (k : Outcome). k ∷ xs) (cc there)
outcome_there (x ∷ xs) (suc i) o there = outcome_there xs i o there

-- the same over the records that are left
record IsLeft (form : Form) (rs : List Rec) (os : List Outcome) (now : Option Bucket) (limited : List Bool) (times : List ℕ) (sent : List Bool) (all : List ℕ) (whole : List Bool → List Bool) : Type 0 where
  told : List ℕ
  news : List Bool
  asked : WasAsked now (times ++ told) (sent ++ news)
  told_left : told ++ times_by form rs os ≡ all
  limited_left : (later : List Bool) → limited ++ limited_by os later ≡ whole (news ++ later)

-- how a limit goes on with a record, by whether it has an error
record GoesOn (error : Bool) (time : ℕ) (old new : Option Bucket) (result : Bool) : Type 0 where
  pub asked : error ≡ true → (times : List ℕ) (sent : List Bool) → WasAsked old times sent → WasAsked new (times ++ time ∷ []) (sent ++ not result ∷ [])
  pub same : error ≡ false → new ≡ old
  pub none : error ≡ false → result ≡ false

not_not : (b : Bool) → not (not b) ≡ b
not_not true = refl
not_not false = refl

one_left : (form : Form) (r : Rec) (o : Outcome) (rs : List Rec) (os : List Outcome) (old new : Option Bucket) (limited : List Bool) (result error : Bool) (times : List ℕ) (sent : List Bool) (all : List ℕ) (whole : List Bool → List Bool) →
    tells o.verdict ≡ error → GoesOn error (nanoseconds form r.seconds r.fraction) old new result →
    IsLeft form (r ∷ rs) (o ∷ os) old limited times sent all whole → IsLeft form rs os new (limited ++ result ∷ []) times sent all whole
one_left form r o rs os old new limited result true times sent all whole is goes left =
    let time : ℕ = nanoseconds form r.seconds r.fraction in
    let asked : WasAsked new ((times ++ left.told) ++ time ∷ []) ((sent ++ left.news) ++ not result ∷ []) = goes.asked refl (times ++ left.told) (sent ++ left.news) left.asked in
    record {
      told = left.told ++ time ∷ [];
      news = left.news ++ not result ∷ [];
      asked = subst (λ (l : List ℕ). WasAsked new l (sent ++ (left.news ++ not result ∷ []))) (append_assoc times left.told (time ∷ []))
          (subst (λ (l : List Bool). WasAsked new ((times ++ left.told) ++ time ∷ []) l) (append_assoc sent left.news (not result ∷ [])) asked);
      told_left = append_assoc left.told (time ∷ []) (times_by form rs os)
          ∙ (ap (λ (b : Bool). left.told ++ (time_if b time ++ times_by form rs os)) (sym is) ∙ left.told_left);
      limited_left = λ later.
          let shown : limited_by (o ∷ os) (not result ∷ later) ≡ result ∷ limited_by os later = limited_told o os result later is in
          append_assoc limited (result ∷ []) (limited_by os later)
          ∙ (ap (λ l. limited ++ l) (sym shown) ∙ (left.limited_left (not result ∷ later) ∙ ap whole (sym (append_assoc left.news (not result ∷ []) later))));
    } where
      limited_told : (o : Outcome) (os : List Outcome) (result : Bool) (later : List Bool) → tells o.verdict ≡ true → limited_by (o ∷ os) (not result ∷ later) ≡ result ∷ limited_by os later
      limited_told o os result later is =
          let P : Bool → Type 0 = λ b. ((if b then not (not result) else false) ∷ limited_by os (if b then later else not result ∷ later)) ≡ result ∷ limited_by os later in
          let here : P true = ap (λ (b : Bool). b ∷ limited_by os later) (not_not result) in
          subst P (sym is) here
one_left form r o rs os old new limited result false times sent all whole is goes left = record {
  told = left.told;
  news = left.news;
  asked = subst (λ (b : Option Bucket). WasAsked b (times ++ left.told) (sent ++ left.news)) (sym (goes.same refl)) left.asked;
  told_left = ap (λ (b : Bool). left.told ++ (time_if b (nanoseconds form r.seconds r.fraction) ++ times_by form rs os)) (sym is) ∙ left.told_left;
  limited_left = λ later.
      append_assoc limited (result ∷ []) (limited_by os later)
      ∙ (ap (λ (b : Bool). limited ++ (b ∷ limited_by os later)) (goes.none refl) ∙ (ap (λ l. limited ++ l) (sym (limited_none o os later is)) ∙ left.limited_left later));
} where
  limited_none : (o : Outcome) (os : List Outcome) (later : List Bool) → tells o.verdict ≡ false → limited_by (o ∷ os) later ≡ false ∷ limited_by os later
  limited_none o os later is =
      let P : Bool → Type 0 = λ b. ((if b then not (get_or later 0 true) else false) ∷ limited_by os (if b then drop 1 later else later)) ≡ false ∷ limited_by os later in
      let here : P false = refl in
      subst P (sym is) here

-- one record more
pub marked_more : (form : Form) (rs : List Rec) (os : List Outcome) (i : ℕ) (r : Rec) (o : Outcome) (first old new : Option Bucket) (limited : List Bool) (result : Bool) →
    slice_get rs i ≡ Some r → slice_get os i ≡ Some o →
    (tells o.verdict ≡ true → (times : List ℕ) (sent : List Bool) → WasAsked old times sent → WasAsked new (times ++ nanoseconds form r.seconds r.fraction ∷ []) (sent ++ not result ∷ [])) →
    (tells o.verdict ≡ false → new ≡ old) → (tells o.verdict ≡ false → result ≡ false) →
    HasMarked form rs os i first old limited → HasMarked form rs os (suc i) first new (limited ++ result ∷ [])
marked_more form rs os i r o first old new limited result some_r some_o asked same none has times sent was =
    let are : AreMarked form rs os i old limited times sent = has times sent was in
    let whole : List Bool → List Bool = λ l. limited_by os l in
    let Left : List Rec → List Outcome → Type 0 = λ xs ys. IsLeft form xs ys old limited times sent (times_by form rs os) whole in
    let here : Left (drop i rs) (drop i os) = record { told = are.told; news = are.news; asked = are.asked; told_left = are.told_left; limited_left = are.limited_left } in
    let opened : Left (r ∷ drop (suc i) rs) (o ∷ drop (suc i) os) =
    subst (λ ys. Left (r ∷ drop (suc i) rs) ys) (outcome_there os i o some_o) (subst (λ xs. Left xs (drop i os)) (record_there rs i r some_r) here) in
    let goes : GoesOn (tells o.verdict) (nanoseconds form r.seconds r.fraction) old new result = record { asked = asked; same = same; none = none } in
    let left = one_left form r o (drop (suc i) rs) (drop (suc i) os) old new limited result (tells o.verdict) times sent (times_by form rs os) whole refl goes opened in
    record { told = left.told; news = left.news; asked = left.asked; told_left = left.told_left; limited_left = left.limited_left }

-- a limiter that was asked once more
pub asked_back : (limit : Option Bucket) (b new : Bucket) (result : Bool) (time : ℕ) → limit ≡ Some b →
    ((times : List ℕ) (sent : List Bool) → Stands b times sent → Stands new (times ++ time ∷ []) (sent ++ result ∷ [])) →
    (times : List ℕ) (sent : List Bool) → WasAsked limit times sent → Stands new (times ++ time ∷ []) (sent ++ not (not result) ∷ [])
asked_back limit b new result time is passes times sent asked =
    subst (λ (k : Bool). Stands new (times ++ time ∷ []) (sent ++ k ∷ [])) (sym (not_not result))
    (passes times sent (subst (λ (l : Option Bucket). WasAsked l times sent) is asked))

-- Without a limit no error is kept back: one record more, by whether it has an error ..
one_kept : (form : Form) (r : Rec) (o : Outcome) (rs : List Rec) (os : List Outcome) (later : List Bool) (error : Bool) → tells o.verdict ≡ error →
    replicate (length os) false ≡ limited_by os (replicate (length (times_by form rs os)) true ++ later) →
    replicate (length (o ∷ os)) false ≡ limited_by (o ∷ os) (replicate (length (times_by form (r ∷ rs) (o ∷ os))) true ++ later)
one_kept form r o rs os later error is rest = subst Kept (sym is) (by error) where
  Kept : Bool → Type 0
  Kept error =
      let sent : List Bool = replicate (length (time_if error (nanoseconds form r.seconds r.fraction) ++ times_by form rs os)) true ++ later in
      (false ∷ replicate (length os) false)
      ≡ ((if error then not (get_or sent 0 true) else false) ∷ limited_by os (if error then drop 1 sent else sent))

  by : (error : Bool) → Kept error
  by true = ap (λ (l : List Bool). false ∷ l) rest
  by false = ap (λ (l : List Bool). false ∷ l) rest

-- .. and all records
none_kept : (form : Form) (rs : List Rec) (os : List Outcome) → length os ≡ length rs → (later : List Bool) →
    replicate (length os) false ≡ limited_by os (replicate (length (times_by form rs os)) true ++ later)
none_kept form rs [] same later = refl
none_kept form [] (o ∷ os) same later = absurd (cc same)
none_kept form (r ∷ rs) (o ∷ os) same later = one_kept form r o rs os later (tells o.verdict) refl (none_kept form rs os (cc same) later)

all_sent : (times told : List ℕ) → replicate (length times) true ++ replicate (length told) true ≡ replicate (length (times ++ told)) true
all_sent [] told = refl
all_sent (t ∷ times) told = ap (λ (l : List Bool). true ∷ l) (all_sent times told)

no_times : (form : Form) (left : List Rec) (times : List ℕ) → times ++ times_by form left [] ≡ times
no_times form [] times = append-nil times
no_times form (r ∷ left) times = append-nil times

pub none_marked : (form : Form) (rs : List Rec) (os : List Outcome) (limit : Option Bucket) (limited : List Bool) → is_some limit ≡ false →
    length os ≡ length rs → limited ≡ replicate (length os) false → HasMarked form rs os (length os) limit limit limited
none_marked form rs os None limited none same is = λ times sent asked.
    let told : List ℕ = times_by form rs os in
    record {
      told = told;
      news = replicate (length told) true;
      asked = ap (λ (l : List Bool). l ++ replicate (length told) true) asked ∙ all_sent times told;
      told_left = ap (λ (l : List Outcome). told ++ times_by form (drop (length os) rs) l) (drop-length os) ∙ no_times form (drop (length os) rs) told;
      limited_left = λ later.
          ap (λ (l : List Outcome). limited ++ limited_by l later) (drop-length os) ∙ append-nil limited
          ∙ is ∙ none_kept form rs os same later;
    }
none_marked form rs os (Some b) limited none same is = absurd (cc none)
