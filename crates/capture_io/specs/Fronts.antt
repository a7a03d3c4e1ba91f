-- What the front of what is left says of the next record, where only the front was read.
use Rattle.std.specs.Prelude.{◌≡◌, ℕ, ◌+◌, ◌^◌, ◌==◌, nat_lt, Bool, true, false, if◌then◌else◌, List, length, take, Result, Ok, Err}
use Rattle.aftr_base.specs.Numbers.{span}
use Rattle.capture_io.specs.declared.forms.CaptureBad.{CaptureBad}
use Rattle.capture_io.specs.declared.forms.CaptureBad.TheVariants as bad
use Rattle.capture_io.specs.declared.forms.Next.{Next}
use Rattle.capture_io.specs.declared.forms.Next.TheVariants as next
use Rattle.capture_io.specs.declared.forms.Rec.{Rec}
use Rattle.capture_io.specs.declared.record.Head.{Head}
use Rattle.capture_io.specs.declared.records.Place.{Place}
use Rattle.capture_io.specs.declared.fronts.Front.{Front}
use Rattle.capture_io.specs.declared.fronts.Front.TheVariants as front
use Rattle.capture_io.specs.Record.{captured}
use Rattle.capture_io.specs.Words.{word_at}

-- these bytes are the first of all that is left
abbrev pub IsStart : List ℕ → List ℕ → Type 0
IsStart first left = take (length first) left ≡ first

-- and where they are the last, they are all
pub record IsFront (first : List ℕ) (last : Bool) (left : List ℕ) : Type 0 where
  pub start : IsStart first left
  pub whole : last ≡ true → left ≡ first

-- what is refused where nothing more comes, and open where more may come
abbrev pub if_last : Bool → Front → Front
if_last last ending = if last then ending else front.More

-- what the front says: the first of these
abbrev pub front_in : Bool → List ℕ → Bool → ℕ → ℕ → Front
front_in big first last at number =
    if length first == 0 then if_last last front.End
    else if number == 2 ^ 31 then front.Bad (bad.TooMany at)
    else if nat_lt (length first) 16 then if_last last (front.Bad (bad.CutHeader at))
    else if nat_lt 262144 (captured big first) then front.Bad (bad.TooLong at)
    else if nat_lt (length first) (16 + captured big first) then if_last last (front.Bad (bad.CutRecord at))
    else front.Whole (record { seconds = word_at big first 0; fraction = word_at big first 4; captured = captured big first })

-- a record whose header stands at a place of a buffer and of the file
abbrev pub place_behind : Head → ℕ → ℕ → Place
place_behind head from at = record {
  seconds = head.seconds;
  fraction = head.fraction;
  from = from + 16;
  count = head.captured;
  next_at = at + 16 + head.captured;
}

-- the record of a header that stands at the front
abbrev pub rec_at : ℕ → List ℕ → Head → Rec
rec_at at first head = record { seconds = head.seconds; fraction = head.fraction; bytes = span first 16 head.captured; next_at = at + 16 + head.captured }

-- the front says what the next record is, unless it is open
abbrev pub Tells : ℕ → List ℕ → Front → Result Next CaptureBad → Type 0
Tells at first (front.Whole head) read = read ≡ Ok (next.Rec (rec_at at first head))
Tells at first front.End read = read ≡ Ok next.End
Tells at first (front.Bad refusal) read = read ≡ Err refusal
Tells at first front.More read = Unit {0}

-- the front says nothing yet
abbrev pub is_more : Front → Bool
is_more (front.Whole _) = false
is_more front.End = false
is_more (front.Bad _) = false
is_more front.More = true
