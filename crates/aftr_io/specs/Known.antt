-- What is known of the two halves over a system: what the files hold, if that is known, and what was counted of the calls that failed.
use Rattle.std.specs.Prelude.{◌≡◌, ℕ, Bool, true, false, List, Option, Some, None}
use Rattle.std.specs.Option.{option_map}
use Rattle.aftr_io.specs.declared.last_error.WriteCall.{WriteCall}
use Rattle.aftr_io.specs.declared.last_error.LostReads.{LostReads}
use Rattle.aftr_io.specs.declared.last_error.SpoiledWrites.{SpoiledWrites}
use Rattle.aftr_io.specs.Contents.{Contents}
use Rattle.aftr_io.specs.FailedCalls.{FailedRead, FailedWrite}
use Rattle.aftr_io.specs.Outside.{Readable, Written}
use Rattle.aftr_io.specs.System.{told_if}

-- the half that is read
pub record ReadSystem : Type 0 where
  pub held : Option Contents
  pub lost : ℕ
  -- the last read that failed
  pub failed : Option FailedRead

abbrev pub name_and_place : FailedRead → List ℕ × ℕ
name_and_place failed = (failed.name, failed.at)

abbrev pub readable_of : ReadSystem → Readable
readable_of known = record { held = known.held; lost = known.lost; last = option_map name_and_place known.failed }

abbrev pub known_to_read : Bool → Contents → LostReads → ReadSystem
known_to_read tells held reads = record { held = told_if tells held; lost = reads.lost; failed = reads.last }

-- no read has failed
abbrev pub not_read : Bool → Contents → ReadSystem
not_read tells held = record { held = told_if tells held; lost = 0; failed = None }

-- if a read failed, it is the last one, and of this name and place; otherwise that is the one before
abbrev pub KeepsRead : Bool → List ℕ → ℕ → ReadSystem → ReadSystem → Type 0
KeepsRead true name place before now = option_map name_and_place now.failed ≡ Some (name, place)
KeepsRead false name place before now = now.failed ≡ before.failed

-- the half that is written
pub record WrittenSystem : Type 0 where
  pub held : Option Contents
  pub spoiled : ℕ
  -- the last create or append that failed
  pub failed : Option FailedWrite

abbrev pub call_and_name : FailedWrite → WriteCall × List ℕ
call_and_name failed = (failed.call, failed.name)

abbrev pub written_of : WrittenSystem → Written
written_of known = record { held = known.held; spoiled = known.spoiled }

abbrev pub known_to_write : Bool → Contents → SpoiledWrites → WrittenSystem
known_to_write tells held writes = record { held = told_if tells held; spoiled = writes.spoiled; failed = writes.last }

-- no create or append has failed
abbrev pub not_written : Bool → Contents → WrittenSystem
not_written tells held = record { held = told_if tells held; spoiled = 0; failed = None }

-- if a call failed, it is the last one, and of this kind and name; otherwise that is the one before
abbrev pub KeepsWrite : Bool → WriteCall → List ℕ → WrittenSystem → WrittenSystem → Type 0
KeepsWrite true call name before now = option_map call_and_name now.failed ≡ Some (call, name)
KeepsWrite false call name before now = now.failed ≡ before.failed
