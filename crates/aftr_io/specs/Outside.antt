-- What is known of the two halves of the outside, and how their calls change it. Every promise on faults is made of the relations below.
use Rattle.std.specs.Prelude.{◌≡◌, ℕ, ◌+◌, ◌-◌, ◌^◌, ◌≤◌, min, Bool, true, false, List, Option, Some, None, Result, Ok, Err}
use Rattle.aftr_io.specs.declared.outside.Fault.{Fault}
use Rattle.aftr_io.specs.declared.outside.Fault.TheVariants as fault
use Rattle.aftr_io.specs.Contents.{Contents}

-- the half that is read
pub record Readable : Type 0 where
  -- what its files hold, if that is known: a file that has no entry holds no bytes
  pub held : Option Contents
  -- How many calls of `read` have answered `Failed`. It never falls, and stops at 2^64 - 1 if 64 bits keep it.
  pub lost : ℕ
  -- the name and the place of the last `read` that answered `Failed`, if there was one
  pub last : Option (List ℕ × ℕ)

-- the half that is written
pub record Written : Type 0 where
  -- what its files hold, if that is known: a file that has no entry holds no bytes
  pub held : Option Contents
  -- How many calls of `create` or `append` have answered `Failed`. It never falls, and stops at 2^64 - 1 if 64 bits keep it.
  pub spoiled : ℕ

-- what the files hold is not known, and nothing has failed
abbrev pub never_read : Readable
never_read = record { held = None; lost = 0; last = None }

abbrev pub never_written : Written
never_written = record { held = None; spoiled = 0 }

-- whether a call of the outside answered `Failed`
abbrev pub has_failed : {T : Type 0} → Result T Fault → Bool
has_failed (Ok _) = false
has_failed (Err fault.Failed) = true
has_failed (Err fault.OutOfMemory) = false

-- one more, up to the last value that 64 bits hold
abbrev pub one_more : ℕ → ℕ
one_more count = min (count + 1) (2 ^ 64 - 1)

-- a count rose by one, or stays at the last value that 64 bits hold
pub record Rose (before now : ℕ) : Type 0 where
  pub kept : before ≤ now
  pub number : now ≡ min (before + 1) (2 ^ 64 - 1)

-- a count rises exactly if a call failed
abbrev pub Rises : Bool → ℕ → ℕ → Type 0
Rises true before now = Rose before now
Rises false before now = now ≡ before

-- if a call failed, the last read that failed is one of this name at a place that is `Inside`; otherwise it is the one before
abbrev pub FailsAt : Bool → List ℕ → (ℕ → Type 0) → Option (List ℕ × ℕ) → Option (List ℕ × ℕ) → Type 0
FailsAt true name Inside before now = (place : ℕ) × Inside place × (now ≡ Some (name, place))
FailsAt false name Inside before now = now ≡ before

-- A call that reads this file and does nothing else: if it failed, one read failed, at a place that is `Inside`.
pub record OnlyReads (failed : Bool) (name : List ℕ) (Inside : ℕ → Type 0) (before now : Readable) : Type 0 where
  pub held : now.held ≡ before.held
  pub lost : Rises failed before.lost now.lost
  pub last : FailsAt failed name Inside before.last now.last
