-- The whole records at the front of a piece of a capture.
use Rattle.std.specs.Prelude.{◌≡◌, ℕ, ◌+◌, ◌*◌, ◌^◌, ◌<◌, ◌≤◌, Bool, List, length, drop, All, Option}
use Rattle.capture_io.specs.declared.forms.Rec.{Rec}
use Rattle.capture_io.specs.declared.rounds.Ending.{Ending}
use Rattle.capture_io.specs.Capture.{Splits}
use Rattle.capture_io.specs.Fronts.{IsFront}
use Rattle.capture_io.specs.Rounds.{IsEnding, Left, Precedes, all_but_last, bytes_captured}

-- what is left of a classic capture from a place on
abbrev pub left_at : Bool → ℕ → Left
left_at big at bytes number rs e = Splits big (drop at bytes) at number rs e

-- Records that were taken off the front of a piece, which stands at a place of the file: how many bytes of it they take, the
-- number of the next one, and how many bytes were captured.
pub record AreTaken (big : Bool) (piece : List ℕ) (last : Bool) (at number most : ℕ) (records : List Rec) (used next total : ℕ) : Type 0 where
  pub follows : (bytes : List ℕ) → IsFront piece last (drop at bytes) → Precedes (left_at big at) (left_at big (at + used)) bytes number records next
  pub numbered : next ≡ number + length records
  pub few : next ≤ 2 ^ 31
  pub room : used ≤ 262160 * length records
  pub inside : used ≤ length piece
  pub count : length records ≤ 16384
  pub captured : total ≡ bytes_captured records
  pub within : bytes_captured (all_but_last records) < most
  pub placed : All (λ r. r.next_at ≤ at + used) records
  pub sizes : All (λ r. length r.bytes ≤ 262144) records

-- they have ended in this way
abbrev pub Ended : Bool → List ℕ → Bool → ℕ → ℕ → ℕ → Option Ending → Type 0
Ended big piece last at used next ending = (bytes : List ℕ) → IsFront piece last (drop at bytes) → IsEnding (left_at big (at + used)) bytes next ending
