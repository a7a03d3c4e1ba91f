-- Some records of a capture, and how they ended, for a reader of any format.
use Rattle.std.specs.Prelude.{◌≡◌, ℕ, ◌+◌, ◌-◌, ◌^◌, ◌<◌, ◌≤◌, Bool, true, false, List, [], ◌∷◌, ◌++◌}
use Rattle.std.specs.Prelude.{length, take, sum_by, All, Option, Some, None, Result, Ok, Err}
use Rattle.aftr_base.specs.declared.lists.OutOfMemory.{OutOfMemory}
use Rattle.aftr_io.specs.Contents.{Contents, content, Told}
use Rattle.aftr_io.specs.Outside.{OnlyReads, Readable}
use Rattle.capture_io.specs.declared.forms.CaptureBad.{CaptureBad}
use Rattle.capture_io.specs.declared.forms.Rec.{Rec}
use Rattle.capture_io.specs.declared.rounds.Ending.{Ending}
use Rattle.capture_io.specs.declared.rounds.Ending.TheVariants as ending
use Rattle.capture_io.specs.declared.rounds.Round.{Round}

-- what is left of some bytes, where the next record has this number, and how it ends
abbrev pub Left : Type 1
Left = List ℕ → ℕ → List Rec → Option CaptureBad → Type 0

-- whatever is now left goes behind these records, and so it was left before
abbrev pub Precedes : Left → Left → List ℕ → ℕ → List Rec → ℕ → Type 0
Precedes before now bytes number records next = (rs : List Rec) (e : Option CaptureBad) → now bytes next rs e → before bytes number (records ++ rs) e

-- the records have ended in this way
abbrev pub IsEnding : Left → List ℕ → ℕ → Option Ending → Type 0
IsEnding now bytes number (Some ending.End) = now bytes number [] None
IsEnding now bytes number (Some (ending.Bad refusal)) = now bytes number [] (Some refusal)
IsEnding now bytes number (Some ending.ReadFault) = Unit {0}
IsEnding now bytes number None = Unit {0}

-- the round's records are the next ones of these bytes, and the reader still stands in them
pub record GoesOn (Stands : List ℕ → Type 0) (before now : Left) (bytes : List ℕ) (number : ℕ) (round : Round) : Type 0 where
  pub stands : Stands bytes
  pub follows : Precedes before now bytes number round.records round.number
  pub ended : IsEnding now bytes round.number round.ending

-- the records end at or before the place of the next one
pub record IsPlaced (from to : ℕ) (round : Round) : Type 0 where
  pub forward : from ≤ to
  pub within : All (λ r. r.next_at ≤ to) round.records

-- how many bytes were captured
abbrev pub bytes_captured : List Rec → ℕ
bytes_captured rs = sum_by (λ r. length r.bytes) rs

-- all records but the last one
abbrev pub all_but_last : List Rec → List Rec
all_but_last rs = take (length rs - 1) rs

-- How many there are: some, unless they have ended, and none behind the one that brings their captured bytes to so many.
pub record IsCount (number most_bytes : ℕ) (round : Round) : Type 0 where
  pub numbered : round.number ≡ number + length round.records
  pub most : round.number ≤ 2 ^ 31
  pub some : round.ending ≡ None → 0 < length round.records
  pub few : length round.records ≤ 16384
  pub bytes : bytes_captured (all_but_last round.records) < most_bytes
  pub sizes : All (λ r. length r.bytes ≤ 262144) round.records

-- the records ended with a read that failed
abbrev pub is_cut : Option Ending → Bool
is_cut (Some ending.ReadFault) = true
is_cut (Some ending.End) = false
is_cut (Some (ending.Bad _)) = false
is_cut None = false

-- a place from where the next record begins on, and before its end, if a whole one stands there
abbrev pub IsInNext : List ℕ → (List ℕ → Type 0) → Left → ℕ → Option Contents → ℕ → ℕ → Type 0
IsInNext name Stood now at held number place = (at ≤ place) × Told held (λ m. Stood (content m name) →
    (r : Rec) (rs : List Rec) (e : Option CaptureBad) → now (content m name) number (r ∷ rs) e → place < r.next_at)

-- a round only reads: where the records ended with `ReadFault`, a read of the record that was next failed
abbrev pub ReadsRound : Result Round OutOfMemory → List ℕ → (List ℕ → Type 0) → Left → ℕ → Readable → Readable → Type 0
ReadsRound (Ok round) name Stood left at before now = OnlyReads (is_cut round.ending) name (IsInNext name Stood left at before.held round.number) before now
ReadsRound (Err _) name Stood left at before now = OnlyReads false name (λ _. Unit {0}) before now
