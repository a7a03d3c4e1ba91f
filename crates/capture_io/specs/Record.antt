-- The records of a capture: a header of four words (seconds, fraction, captured length, original length) and then the
-- captured bytes.
use Rattle.std.specs.Prelude.{◌≡◌, ℕ, ◌+◌, ◌*◌, ◌^◌, ◌<◌, ◌≤◌, ◌==◌, nat_lt, Bool, if◌then◌else◌, List, [], ◌∷◌, ◌++◌, length, Result, Ok}
use Rattle.aftr_base.specs.Numbers.{span}
use Rattle.aftr_base.specs.First.{first_true, refused_or}
use Rattle.capture_io.specs.declared.forms.Form.{Form}
use Rattle.capture_io.specs.declared.forms.Rec.{Rec}
use Rattle.capture_io.specs.declared.forms.Next.{Next}
use Rattle.capture_io.specs.declared.forms.Next.TheVariants as next
use Rattle.capture_io.specs.declared.forms.CaptureBad.{CaptureBad}
use Rattle.capture_io.specs.declared.forms.CaptureBad.TheVariants as bad
use Rattle.capture_io.specs.Words.{word_at}

-- the captured length that a record's header says
abbrev pub captured : Bool → List ℕ → ℕ
captured big left = word_at big left 8

-- the record at the front of what is left, which stands at a place of the file; its original length is ignored
abbrev pub record_in : Bool → List ℕ → ℕ → Rec
record_in big left at = record {
  seconds = word_at big left 0;
  fraction = word_at big left 4;
  bytes = span left 16 (captured big left);
  next_at = at + 16 + captured big left;
}

-- why a record's header is refused, whatever stands behind it: each condition with its refusal
abbrev pub head_refusals : Bool → List ℕ → ℕ → ℕ → List (Bool × CaptureBad)
head_refusals big left at number =
    (number == 2 ^ 31, bad.TooMany at)
    ∷ (nat_lt (length left) 16, bad.CutHeader at)
    ∷ (nat_lt 262144 (captured big left), bad.TooLong at)
    ∷ []

-- why no record stands there: its header is refused, or fewer bytes follow than it says
abbrev pub record_refusals : Bool → List ℕ → ℕ → ℕ → List (Bool × CaptureBad)
record_refusals big left at number =
    head_refusals big left at number ++ ((nat_lt (length left) (16 + captured big left), bad.CutRecord at) ∷ [])

-- what comes next, of what is left from a place on, for the record of a number
abbrev pub next_in : Bool → List ℕ → ℕ → ℕ → Result Next CaptureBad
next_in big left at number =
    if length left == 0 then Ok next.End
    else refused_or (first_true (record_refusals big left at number)) (next.Rec (record_in big left at))

-- what holds of a record whatever the files hold
pub record IsBoundedRec (r : Rec) (at number : ℕ) : Type 0 where
  pub in_count : number < 2 ^ 31
  pub size : length r.bytes ≤ 262144
  pub next : r.next_at ≡ at + 16 + length r.bytes

abbrev pub IsBounded : Next → ℕ → ℕ → Type 0
IsBounded (next.Rec r) at number = IsBoundedRec r at number
IsBounded next.End at number = Unit {0}

-- a time in nanoseconds; where the fraction counts microseconds, each is 1000 of them
abbrev pub nanoseconds : Form → ℕ → ℕ → ℕ
nanoseconds form seconds fraction = seconds * 1000000000 + fraction * (if form.nano then 1 else 1000)
