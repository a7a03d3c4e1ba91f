-- What the outputs hold where rounds were ended by a fault.
use Rattle.std.specs.Prelude.{All, List, Option, Some, [], drop, length, take, ℕ, ◌++◌, ◌<◌, ◌∷◌, ◌≡◌, ◌≤◌, ◌⊎◌}
use Rattle.run_turns.specs.Words.{CaptureBad, Contents, Course, NoneIsDue, Readable, Rec, Rose, entries_of, lines_from, load_lines, packets_from}
use Rattle.run_turns.specs.Progress.{IsLimitedRun, State, Suits, Wrote}
use Rattle.run_turns.specs.Setups.{Setup, Spot, loads_of}

-- the first bytes of these
abbrev pub IsFrontOf : List ℕ → List ℕ → Type 0
IsFrontOf whole part = (count : ℕ) × (part ≡ take count whole)

-- the first record, if there is one, ends behind a place
abbrev pub IsBehind : ℕ → List Rec → Type 0
IsBehind place [] = Unit {0}
IsBehind place (r ∷ rs) = place < r.next_at

-- Of the records that are there behind some place, these are those that end at or before the place of a read of the file that failed:
-- the next one, if there is one, ends behind it.
pub record AreBefore (AreThere : List Rec → Option CaptureBad → Type 0) (name : List ℕ) (start : ℕ) (rs : List Rec) (last : Option (List ℕ × ℕ)) : Type 0 where
  pub rest : List Rec
  pub ending : Option CaptureBad
  pub capture : AreThere (rs ++ rest) ending
  pub place : ℕ
  pub last_is : last ≡ Some (name, place)
  pub in_records : start ≤ place
  pub reached : All (λ r. r.next_at ≤ place) rs
  pub next : IsBehind place rest

-- these are all records where no read of this file failed, and those before the read that failed where one did
abbrev pub Takes : List ℕ → Spot → List ℕ → List Rec → Readable → Readable → Type 0
Takes name reader bytes rs a b = ((b.lost ≡ a.lost) × ((ended : Option CaptureBad) × reader.left bytes 0 rs ended))
    ⊎ (Rose a.lost b.lost × AreBefore (reader.left bytes 0) name reader.at rs b.last)

-- behind what the outputs held stand these first lines of tables and a front of what follows, and fronts of packets and of lines
pub record WroteFronts (x : Setup) (first tables packets lines : List ℕ) (old new : Contents) : Type 0 where
  pub more : List ℕ
  pub in_tables : IsFrontOf tables (first ++ more)
  pub packets_part : List ℕ
  pub in_packets : IsFrontOf packets packets_part
  pub lines_part : List ℕ
  pub in_lines : IsFrontOf lines lines_part
  pub wrote : Wrote x.run (first ++ more) packets_part lines_part old new

-- These records were taken, and fronts of what they write stand behind what the outputs held, of their lines a front of these. The
-- lines of the tables that were in force for them, which are those of the first few loads, are written whole.
pub record HasBegun (x : Setup) (c : Course) (points lines : List ℕ) (opened now : Contents) (taken : List Rec) : Type 0 where
  pub printed : List ℕ
  pub later : List ℕ
  pub all : points ≡ printed ++ later
  pub loads : ℕ
  pub none_due : NoneIsDue printed (drop loads x.slots)
  pub spoken : (number : ℕ) → number < length taken → c.version number ≤ length printed
  pub wrote : IsLimitedRun x c taken → WroteFronts x (load_lines points (take loads (loads_of x))) (load_lines points (loads_of x))
      (packets_from c x.written 0 taken (entries_of x.form taken)) lines opened now

-- of these records the first few were taken, and fronts of what they write stand in the outputs, whichever points come later
pub record IsCutFrom (x : Setup) (s : State) (opened now : Contents) (records : List Rec) : Type 0 where
  pub taken : List Rec
  pub rest : List Rec
  pub all : records ≡ taken ++ rest
  pub begun : (later : List ℕ) (c : Course) → Suits s.plan s.draws c →
      HasBegun x c (s.points ++ later) (lines_from c 0 (entries_of x.form taken)) opened now taken

-- Rounds over the capture with these bytes were ended by a fault: no more records were drawn than there are.
pub record IsBrokenFrom (x : Setup) (s : State) (first : Spot) (a b : Readable) (bytes : List ℕ) (opened now : Contents) : Type 0 where
  pub records : List Rec
  pub taken : Takes x.run.input first bytes records a b
  pub drawn : length s.draws ≤ length records
  pub part : IsCutFrom x s opened now records

abbrev pub Breaks : Setup → State → Spot → Readable → Readable → List ℕ → Contents → Contents → Type 0
Breaks x s first a b bytes opened now = first.stood bytes → IsBrokenFrom x s first a b bytes opened now
