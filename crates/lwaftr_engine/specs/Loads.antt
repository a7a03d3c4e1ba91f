-- The loads of a run as they are read.
use Rattle.std.specs.Prelude.{Bool, List, Option, false, take, true, ℕ, ◌≡◌}
use Rattle.std.specs.List.{AllZip}
use Rattle.lwaftr_engine.specs.Words.{Contents, IsLoadedAs, IsSound, Load, LoadFile, LoadWords, Readable, Rises, TableOf, content}
use Rattle.lwaftr_engine.specs.Causes.{IsReadOf}
use Rattle.lwaftr_engine.specs.Tables.{Answer}

-- what the load's file says, and the load by it
pub record IsLoadOf (m : Contents) (words : LoadWords) (load : Load) : Type 0 where
  pub answer : Answer
  pub says : TableOf (content m words.name) answer
  pub is : IsLoadedAs answer load.loaded

abbrev pub AreLoadsOf : Contents → List LoadWords → List Load → Type 0
AreLoadsOf m words loads = AllZip (IsLoadOf m) words loads

-- each load has its window, and the words of a table or a refusal
pub record IsFitFor (words : LoadWords) (load : Load) : Type 0 where
  pub window : load.window ≡ words.window
  pub sound : IsSound load.loaded

abbrev pub AreFitFor : List LoadWords → List Load → Type 0
AreFitFor words loads = AllZip IsFitFor words loads

-- the load's file as it is read: as much of it as is enough to judge it
pub record IsFileOf (m : Contents) (words : LoadWords) (file : LoadFile) : Type 0 where
  pub text : file.text ≡ take 16777217 (content m words.name)

abbrev pub HasWindowOf : LoadWords → LoadFile → Type 0
HasWindowOf words file = file.window ≡ words.window

-- where a call failed, a read of a file with one of these names did
abbrev pub FailsAmong : Bool → List (List ℕ) → Option (List ℕ × ℕ) → Option (List ℕ × ℕ) → Type 0
FailsAmong true names before now = IsReadOf names now
FailsAmong false names before now = now ≡ before

-- a call that reads these files and does nothing else
pub record OnlyReadsAmong (failed : Bool) (names : List (List ℕ)) (before now : Readable) : Type 0 where
  pub held : now.held ≡ before.held
  pub lost : Rises failed before.lost now.lost
  pub last : FailsAmong failed names before.last now.last
