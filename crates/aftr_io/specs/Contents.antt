-- What files hold, and how the calls of the outside change it.
use Rattle.std.specs.Prelude.{◌≡◌, ◌≢◌, ℕ, List, [], ◌++◌, take, Option, Some, None, Result, Ok, Err, unwrap_or}
use Rattle.std.specs.Ordering.{nat_cmp}
use Rattle.std.specs.Cmp.Lexicographic.{slice_cmp}
use Rattle.std.specs.Coded.{Coded, coded_list, coded_ℕ}
use Rattle.std.specs.FinMap.{FinMap, get, code}
use Rattle.aftr_io.specs.declared.outside.Fault.{Fault}

-- the bytes of each file, by the bytes of its name
abbrev pub Contents : Type 0
Contents = FinMap (slice_cmp nat_cmp) (List ℕ)

-- the bytes of one file; a name without an entry holds none
abbrev pub content : Contents → List ℕ → List ℕ
content held name = unwrap_or (get held name) []

-- P of what is held, if that is known
abbrev pub Told : Option Contents → (Contents → Type 0) → Type 0
Told None P = Unit {0}
Told (Some held) P = P held

-- what is known stays known, and goes from the old to the new by P
abbrev pub Moves : Option Contents → Option Contents → (Contents → Contents → Type 0) → Type 0
Moves None None P = Unit {0}
Moves None (Some new) P = ⊥
Moves (Some old) None P = ⊥
Moves (Some old) (Some new) P = P old new

-- one file now holds these bytes; every other file holds what it held
pub record Writes (old new : Contents) (name bytes : List ℕ) : Type 0 where
  pub here : content new name ≡ bytes
  pub others : (other : List ℕ) → other ≢ name → content new other ≡ content old other

-- a file is emptied, or made; after an error everything is as before
abbrev pub Created : Result Unit Fault → Option Contents → Option Contents → List ℕ → Type 0
Created (Ok _) old new name = Moves old new (λ m n. Writes m n name [])
Created (Err _) old new name = new ≡ old

-- the first bytes, as many as the answer says, are put behind what the file held; after an error everything is as before
abbrev pub Appended : Result ℕ Fault → Option Contents → Option Contents → List ℕ → List ℕ → Type 0
Appended (Ok count) old new name bytes = Moves old new (λ m n. Writes m n name (content m name ++ take count bytes))
Appended (Err _) old new name bytes = new ≡ old

abbrev pub contents_code : Coded Contents
contents_code = code (coded_list coded_ℕ) (coded_list coded_ℕ)
