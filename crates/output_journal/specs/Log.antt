-- What is done to the three outputs, as a log of steps: done to its end, or to a front.
use Rattle.std.specs.Prelude.{Bool, Err, List, Ok, Result, false, flat_map, if◌then◌else◌, take, true, ℕ, [], ◌++◌, ◌∷◌, ◌≡◌, ◌≢◌}
use Rattle.aftr_io.specs.Contents.{Contents, Moves, content}
use Rattle.aftr_io.specs.Outside.{Rises, Written, has_failed}
use Rattle.aftr_io.specs.declared.outside.Fault.{Fault}
use Rattle.output_journal.specs.declared.journal.Entry.{Entry}
use Rattle.output_journal.specs.declared.journal.Entry.TheVariants as entry
use Rattle.output_journal.specs.declared.names.Names.{Names}
use Rattle.output_journal.specs.declared.names.Output.{Output}
use Rattle.output_journal.specs.declared.names.Output.TheVariants as output

-- the bytes of the three names
pub record OutputNames : Type 0 where
  pub packets : List ℕ
  pub verdicts : List ℕ
  pub versions : List ℕ

abbrev pub output_names : Names → OutputNames
output_names names = record { packets = names.packets.now; verdicts = names.verdicts.now; versions = names.versions.now }

abbrev pub name_of : OutputNames → Output → List ℕ
name_of names output.Packets = names.packets
name_of names output.Verdicts = names.verdicts
name_of names output.Versions = names.versions

pub record AreDistinct (names : OutputNames) : Type 0 where
  pub packets_verdicts : names.packets ≢ names.verdicts
  pub packets_versions : names.packets ≢ names.versions
  pub verdicts_versions : names.verdicts ≢ names.versions

abbrev pub is_same : Output → Output → Bool
is_same output.Packets output.Packets = true
is_same output.Verdicts output.Verdicts = true
is_same output.Versions output.Versions = true
is_same one other = false

-- A step makes a file empty, or adds one byte.
pub data Step : Type 0 where
  make : Output → Step
  add : Output → ℕ → Step

-- these bytes are added, one by one
abbrev pub adds : Output → List ℕ → List Step
adds file [] = []
adds file (byte ∷ bytes) = add file byte ∷ adds file bytes

-- the steps of an entry, and those of a list of them
abbrev pub entry_steps : Entry → List Step
entry_steps (entry.Make file) = make file ∷ []
entry_steps (entry.Add file bytes) = adds file bytes.now

abbrev pub log_of : List Entry → List Step
log_of entries = flat_map entry_steps entries

-- what a file holds behind these steps, by what it held
abbrev pub holds : Output → List Step → List ℕ → List ℕ
holds file [] held = held
holds file (make other ∷ steps) held = holds file steps (if is_same other file then [] else held)
holds file (add other byte ∷ steps) held = holds file steps (if is_same other file then held ++ (byte ∷ []) else held)

-- files of other names hold what they held
abbrev pub OthersKept : OutputNames → Contents → Contents → Type 0
OthersKept names old new =
    (name : List ℕ) → name ≢ names.packets → name ≢ names.verdicts → name ≢ names.versions → content new name ≡ content old name

-- these steps were done, and nothing else
pub record Did (names : OutputNames) (steps : List Step) (old new : Contents) : Type 0 where
  pub files : (file : Output) → content new (name_of names file) ≡ holds file steps (content old (name_of names file))
  pub others : OthersKept names old new

-- the first few of them were
abbrev pub DidFront : OutputNames → List Step → Contents → Contents → Type 0
DidFront names steps old new = (count : ℕ) × Did names (take count steps) old new

-- If the files tell what they hold, these steps were done to them. The count of failed writes rose exactly if a call failed.
pub record Logged (names : OutputNames) (failed : Bool) (steps : List Step) (old new : Written) : Type 0 where
  pub held : Moves old.held new.held (Did names steps)
  pub spoiled : Rises failed old.spoiled new.spoiled

-- all steps were done; after an error only the first few of them, or none
abbrev pub Logs : OutputNames → Result Unit Fault → List Step → Written → Written → Type 0
Logs names (Ok done) steps old new = Logged names false steps old new
Logs names (Err why) steps old new = (count : ℕ) × Logged names (has_failed {T = Unit} (Err why)) (take count steps) old new

-- how a run begins: all three are made, then the header of the capture is added and the line of the first table
abbrev pub opening_log : List ℕ → List ℕ → List Step
opening_log header line =
    make output.Packets ∷ make output.Verdicts ∷ make output.Versions ∷ (adds output.Packets header ++ adds output.Versions line)

-- what a round adds: lines of tables, then packets, then lines of records
abbrev pub round_log : List ℕ → List ℕ → List ℕ → List Step
round_log versions packets lines = adds output.Versions versions ++ (adds output.Packets packets ++ adds output.Verdicts lines)

-- how it ends: the last lines of tables, then those of records
abbrev pub last_log : List ℕ → List ℕ → List Step
last_log versions lines = adds output.Versions versions ++ adds output.Verdicts lines
