-- What the outputs hold where rounds were ended by a fault.
use Rattle.std.specs.Prelude.{List, Option, drop, length, take, ℕ, ◌++◌, ◌<◌, ◌≡◌, ◌≤◌, ◌⊎◌}
use Rattle.lwaftr_engine.specs.Words.{CaptureBad, Contents, Course, NoneIsDue, Readable, Rec, Rose, entries_of, lines_from, load_lines, packets_from}
use Rattle.lwaftr_engine.specs.Endings.{AreBefore}
use Rattle.lwaftr_engine.specs.Fronts.{IsFrontOf}
use Rattle.lwaftr_engine.specs.Progress.{IsLimitedRun, IsUpToDate, Setup, Spot, State, Suits, Wrote, loads_of}

-- these are all records where no read of this file failed, and those before the read that failed where one did
abbrev pub Takes : List ℕ → Spot → List ℕ → List Rec → Readable → Readable → Type 0
Takes name reader bytes rs a b = ((b.lost ≡ a.lost) × ((ended : Option CaptureBad) × reader.left bytes 0 rs ended))
    ⊎ (Rose a.lost b.lost × AreBefore (reader.left bytes 0) name reader.at rs b.last)

-- behind what the outputs held stand these first lines of tables and a front of what follows, and fronts of packets and of lines
pub record WroteFronts (x : Setup) (first tables packets lines : List ℕ) (old new : Contents) : Type 0 where
  pub more : List ℕ
  pub in_tables : IsFrontOf tables (first ++ more)
  pub packets_part : List ℕ
  pub in_packets : IsFrontOf packets packets_part
  pub lines_part : List ℕ
  pub in_lines : IsFrontOf lines lines_part
  pub wrote : Wrote x.run (first ++ more) packets_part lines_part old new

-- These records were taken, and fronts of what they write stand behind what the outputs held, of their lines a front of these. The
-- lines of the tables that were in force for them, which are those of the first few loads, are written whole.
pub record HasBegun (x : Setup) (c : Course) (points lines : List ℕ) (opened now : Contents) (taken : List Rec) : Type 0 where
  pub printed : List ℕ
  pub later : List ℕ
  pub all : points ≡ printed ++ later
  pub loads : ℕ
  pub none_due : NoneIsDue printed (drop loads x.slots)
  pub spoken : (number : ℕ) → number < length taken → c.version number ≤ length printed
  pub wrote : IsLimitedRun x c taken → WroteFronts x (load_lines points (take loads (loads_of x))) (load_lines points (loads_of x))
      (packets_from c x.written 0 taken (entries_of x.form taken)) lines opened now

-- of these records the first few were taken, and fronts of what they write stand in the outputs, whichever points come later
pub record IsCutFrom (x : Setup) (s : State) (opened now : Contents) (records : List Rec) : Type 0 where
  pub taken : List Rec
  pub rest : List Rec
  pub all : records ≡ taken ++ rest
  pub begun : (later : List ℕ) (c : Course) → Suits s.plan s.draws c →
      HasBegun x c (s.points ++ later) (lines_from c 0 (entries_of x.form taken)) opened now taken

-- rounds over the capture with these bytes were ended by a fault: no more records were drawn than there are, and each table whose window is open is in force
pub record IsBrokenFrom (x : Setup) (s : State) (first : Spot) (a b : Readable) (bytes : List ℕ) (opened now : Contents) : Type 0 where
  pub records : List Rec
  pub taken : Takes x.run.input first bytes records a b
  pub drawn : length s.draws ≤ length records
  pub up_to_date : IsUpToDate s.plan (length s.draws) s.points
  pub part : IsCutFrom x s opened now records

abbrev pub Breaks : Setup → State → Spot → Readable → Readable → List ℕ → Contents → Contents → Type 0
Breaks x s first a b bytes opened now = first.stood bytes → IsBrokenFrom x s first a b bytes opened now
