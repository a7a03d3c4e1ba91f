-- What a status says of the faults of the outside.
use Rattle.std.specs.Prelude.{List, Option, Some, ℕ, ◌≡◌, ◌⊎◌}
use Rattle.std.specs.List.{Contains}
use Rattle.lwaftr_engine.specs.Words.{Readable, Rose, Status}
use Rattle.lwaftr_engine.specs.Worlds.{World}
use Rattle.lwaftr_engine.specs.declared.status.Status.TheVariants as status

-- no call of the outside failed
pub record NothingRose (before now : World) : Type 0 where
  pub lost : now.reading.lost ≡ before.reading.lost
  pub spoiled : now.writing.spoiled ≡ before.writing.spoiled
  pub puts : now.puts ≡ before.puts

-- no call on the files failed, and the last read that failed is the one before
pub record NoneOfFilesRose (before now : World) : Type 0 where
  pub lost : now.reading.lost ≡ before.reading.lost
  pub spoiled : now.writing.spoiled ≡ before.writing.spoiled
  pub last : now.reading.last ≡ before.reading.last

-- a read failed, and nothing else did
pub record ReadsRose (before now : World) : Type 0 where
  pub lost : Rose before.reading.lost now.reading.lost
  pub spoiled : now.writing.spoiled ≡ before.writing.spoiled
  pub puts : now.puts ≡ before.puts

-- nothing failed but reads
pub record NoneOfWritingRose (before now : World) : Type 0 where
  pub spoiled : now.writing.spoiled ≡ before.writing.spoiled
  pub puts : now.puts ≡ before.puts

-- `ReadFault` comes only where a read failed in this call and nothing else did, `WriteFault` only where a create, an append or a
-- put failed, and at every other status nothing failed; but memory may be short behind a read of a run's records that failed.
abbrev pub HasCause : Status → World → World → Type 0
HasCause status.ReadFault before now = ReadsRose before now
HasCause status.WriteFault before now = Rose before.writing.spoiled now.writing.spoiled ⊎ Rose before.puts now.puts
HasCause status.OutOfMemory before now = NoneOfWritingRose before now
HasCause _ before now = NothingRose before now

-- the same where nothing is done behind a read that failed: at want of memory nothing failed
abbrev pub HasOneCause : Status → World → World → Type 0
HasOneCause status.OutOfMemory before now = NothingRose before now
HasOneCause s before now = HasCause s before now

-- nothing failed of reads, of creates and appends, and of puts
pub record NothingFailed (before now : World) : Type 0 where
  pub lost : Rose before.reading.lost now.reading.lost → ⊥
  pub spoiled : Rose before.writing.spoiled now.writing.spoiled → ⊥
  pub puts : Rose before.puts now.puts → ⊥

-- the last read that failed is one of a file with one of these names
pub record IsReadOf (names : List (List ℕ)) (last : Option (List ℕ × ℕ)) : Type 0 where
  pub name : List ℕ
  pub place : ℕ
  pub among : Contains names name
  pub last_is : last ≡ Some (name, place)

-- At `ReadFault` the last read that failed is one of these files. Nothing is said of it where writing failed or memory was short,
-- and at every other status no read failed.
abbrev pub FailsIn : List (List ℕ) → Status → Option (List ℕ × ℕ) → Option (List ℕ × ℕ) → Type 0
FailsIn names status.ReadFault old new = IsReadOf names new
FailsIn names status.WriteFault old new = Unit {0}
FailsIn names status.OutOfMemory old new = Unit {0}
FailsIn names _ old new = new ≡ old

-- no read failed, or one did, and it is one of this file
abbrev pub MayFailIn : List ℕ → Readable → Readable → Type 0
MayFailIn name before now =
    ((now.lost ≡ before.lost) × (now.last ≡ before.last)) ⊎ (Rose before.lost now.lost × ((place : ℕ) × (now.last ≡ Some (name, place))))

-- where writing failed or memory was short in a run, no read of a table failed before, and of the capture one at most
abbrev pub FailsBehind : List ℕ → Status → Readable → Readable → Type 0
FailsBehind input status.WriteFault before now = MayFailIn input before now
FailsBehind input status.OutOfMemory before now = MayFailIn input before now
FailsBehind input _ before now = Unit {0}

-- the job ended by a fault of the outside or for want of memory
abbrev pub IsFault : Status → Type 0
IsFault status.ReadFault = Unit {0}
IsFault status.WriteFault = Unit {0}
IsFault status.OutOfMemory = Unit {0}
IsFault _ = ⊥
