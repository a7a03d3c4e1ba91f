-- What is known of the files of a system, what was read ahead of one of them, and the handles by which they are written.
use Rattle.std.specs.Prelude.{◌≡◌, ◌≢◌, ℕ, ◌+◌, Bool, true, false, List, length, take, drop, Option, Some, None, slice_index_or}
use Rattle.std.specs.List.{All, AllPairs}
use Rattle.std.specs.Option.{option_map, ForSome}
use Rattle.aftr_io.specs.Contents.{Contents, content}

-- what is held, if that is known
abbrev pub told_if : Bool → Contents → Option Contents
told_if true held = Some held
told_if false held = None

-- bytes that were read ahead, and the place that the first of them has in its file
pub record Ahead : Type 0 where
  pub start : ℕ
  pub bytes : List ℕ

-- they stand in the file at that place
abbrev pub StandsIn : Ahead → List ℕ → Type 0
StandsIn ahead file = ahead.bytes ≡ take (length ahead.bytes) (drop ahead.start file)

-- Where a handle writes: the name of its file, and the place of its next write. No place is the file's end at the time of the write.
abbrev pub WritePlace : Type 0
WritePlace = List ℕ × Option ℕ

-- the handle after a write of this many bytes
abbrev pub moved : WritePlace → ℕ → WritePlace
moved handle count = (handle.0, option_map (λ place. place + count) handle.1)

-- its next write is behind the last byte of its file
abbrev pub IsAtEnd : Contents → WritePlace → Type 0
IsAtEnd held handle = ForSome handle.1 (λ place. place ≡ length (content held handle.0))

-- A table of handles.
module _ {Entry : Type 0} (handle_of : Entry → WritePlace) where
  -- each writes at the end of its file, and no two write one file
  abbrev pub WriteAtEnds : Contents → List Entry → Type 0
  WriteAtEnds held table = All (λ entry. IsAtEnd held (handle_of entry)) table × AllPairs (λ a b. (handle_of a).0 ≢ (handle_of b).0) table

  -- none writes this file
  abbrev pub NoneWrites : List ℕ → List Entry → Type 0
  NoneWrites name table = All (λ entry. (handle_of entry).0 ≢ name) table

-- the entry at a place of a table has the name
abbrev pub IsNamed : {Entry : Type 0} → (Entry → List ℕ) → List Entry → List ℕ → ℕ → Type 0
IsNamed {Entry} name_of table name place = (other : Entry) → name_of (slice_index_or table place other) ≡ name
