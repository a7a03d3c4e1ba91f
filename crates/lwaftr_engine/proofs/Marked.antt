-- For every list of times there are marks that a limit gives, and a limiter that was asked about just these times.
use Rattle.lwaftr_engine.proofs.Words.{◌≡◌, ℕ, ◌+◌, ◌-◌, ◌*◌, ◌≤◌, max, Bool, true, false, List, [], ◌∷◌, ◌++◌, length, Option, Some, None, refl, sym, ap}
use Rattle.lwaftr_engine.proofs.Words.{arith, inl, inr, append-nil, append_assoc, IfSome, replicate, cases_lt, true≢false, IsRate, Form, Rec, Bucket, second}
use Rattle.lwaftr_engine.proofs.Words.{kept, sent, Entry, HasAsked, rate_of, times_of, told_from, Course}
use Rattle.error_limit.specs.Limits.{Stands}

-- a limiter that was asked about these times
pub record AreMarked (rate : ℕ) (times : List ℕ) : Type 0 where
  pub bucket : Bucket
  pub marks : List Bool
  pub rate_is : bucket.rate ≡ rate
  pub stands : Stands bucket times marks

-- it is asked about more of them
marked_more : (more : List ℕ) (b : Bucket) (times : List ℕ) (marks : List Bool) → 1 ≤ b.rate → Stands b times marks → AreMarked b.rate (times ++ more)
marked_more [] b times marks some stands = record { bucket = b; marks = marks; rate_is = refl; stands = rw (append-nil times) stands }
marked_more (time ∷ more) b times marks some stands =
    rw (← (append_assoc times (time ∷ []) more)) (elim (cases_lt (b.rate * second) (b.level - b.rate * (max b.time time - b.time) + second)) [
      | inl full ↦ marked_more more (record { rate = b.rate; level = b.level - b.rate * (max b.time time - b.time); time = max b.time time })
          (times ++ time ∷ []) (marks ++ false ∷ []) some
          (kept b times marks time (max b.time time) (b.level - b.rate * (max b.time time - b.time)) stands refl refl some full)
      | inr fits ↦ marked_more more (record { rate = b.rate; level = b.level - b.rate * (max b.time time - b.time) + second; time = max b.time time })
          (times ++ time ∷ []) (marks ++ true ∷ []) some
          (sent b times marks time (max b.time time) (b.level - b.rate * (max b.time time - b.time)) stands refl refl some fits)
    ])

abbrev empty : ℕ → Bucket
empty rate = record { rate = rate; level = 0; time = 0 }

none_asked : (rate : ℕ) → Stands (empty rate) [] []
none_asked rate = record {
  marked = record { size = refl; each = λ j inside. absurd (omega (arith, inside)) };
  time = refl;
  most = λ s was. absurd (true≢false (sym was));
  some = inl refl;
}

pub marks_exist : (rate : ℕ) (times : List ℕ) → 1 ≤ rate → AreMarked rate times
marks_exist rate times some = marked_more times (empty rate) [] [] some (none_asked rate)

-- a limit, or none, that was asked about all errors of these records
pub record IsAskedFor (rate : Option ℕ) (form : Form) (rs : List Rec) (es : List Entry) (c : Course) : Type 0 where
  pub limit : Option Bucket
  pub rate_is : rate_of limit ≡ rate
  pub asked : HasAsked form rs es c limit

pub limits_exist : (rate : Option ℕ) → IfSome rate IsRate → (form : Form) (rs : List Rec) (es : List Entry) (c : Course) → IsAskedFor rate form rs es c
limits_exist None is form rs es c = record { limit = None; rate_is = refl; asked = (replicate (length (times_of (told_from c form 0 rs es))) true, refl) }
limits_exist (Some rate) is form rs es c =
    let found = marks_exist rate (times_of (told_from c form 0 rs es)) is.0 in
    record { limit = Some found.bucket; rate_is = ap (λ (n : ℕ). let o : Option ℕ = Some n in o) found.rate_is; asked = (found.marks, found.stands) }
