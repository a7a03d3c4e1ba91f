-- A table file written anew in the newer edition, under another name.
use Rattle.std.specs.Prelude.{List, None, Ok, Option, length, take, ℕ, ◌++◌, ◌≡◌, ◌⊎◌}
use Rattle.std.specs.Option.{option_map}
use Rattle.lwaftr_engine.specs.Words.{BindingTable, Contents, HistoryValue, Moves, Rose, Status, TableOf, TextOf, Told, Writes, binding_table, content}
use Rattle.lwaftr_engine.specs.Words.{migrated_text}
use Rattle.binding_rules.specs.declared.settings.Edition.TheVariants as edition
use Rattle.lwaftr_engine.specs.Causes.{HasOneCause}
use Rattle.lwaftr_engine.specs.Questions.{Answers, FailedIn, IsComplete, RefusesAs}
use Rattle.lwaftr_engine.specs.Worlds.{World}
use Rattle.lwaftr_engine.specs.declared.status.Status.TheVariants as status

-- the same settings and bindings in the newer edition
abbrev pub in_edition_two : BindingTable → BindingTable
in_edition_two t = binding_table edition.Two t.softwire t.bindings

-- `inputs` is what the files hold that are read, `old` and `new` what those hold that are written.

-- a text of the file's table in the newer edition
pub record IsNewText (m : Contents) (input : List ℕ) (t : BindingTable) (text : List ℕ) : Type 0 where
  pub table : TableOf (content m input) (Ok t)
  pub spelled : TextOf text (Ok (in_edition_two t))

-- OUT is as it was, or holds a front of such a text; nothing else changed
abbrev pub HoldsFrontOfText : List ℕ → List ℕ → Contents → Contents → Contents → Type 0
HoldsFrontOfText input output inputs old new =
    (new ≡ old) ⊎ ((t : BindingTable) × (text : List ℕ) × IsNewText inputs input t text × (count : ℕ) × Writes old new output (take count text))

-- OUT holds such a text whole, and nothing else changed
pub record HoldsText (input output : List ℕ) (t : BindingTable) (inputs old new : Contents) : Type 0 where
  pub text : List ℕ
  pub is_new : IsNewText inputs input t text
  pub writes : Writes old new output text

-- `migrated N bindings`
abbrev pub IsMigratedLine : List ℕ → Type 0
IsMigratedLine line = (bindings : ℕ) × (line ≡ migrated_text bindings)

-- all of the text is written, and the sink took a front of its line
pub record IsAtLine (input output : List ℕ) (inputs old new : Contents) (said now : Option (List ℕ)) : Type 0 where
  pub table : BindingTable
  pub holds : HoldsText input output table inputs old new
  pub count : ℕ
  pub took : now ≡ option_map (λ taken. taken ++ take count (migrated_text (length table.bindings))) said

-- the text is not all written, and the sink took nothing
pub record IsAtText (input output : List ℕ) (inputs old new : Contents) (said now : Option (List ℕ)) : Type 0 where
  pub holds : HoldsFrontOfText input output inputs old new
  pub took : now ≡ said

-- all is done
pub record IsMigrated (input output : List ℕ) (inputs old new : Contents) (said now : Option (List ℕ)) : Type 0 where
  pub table : BindingTable
  pub holds : HoldsText input output table inputs old new
  pub took : now ≡ option_map (λ taken. taken ++ migrated_text (length table.bindings)) said

-- What OUT holds and what the sink took, by the status. Where no call of the files failed, a `WriteFault` is one of the sink, and
-- the text is whole.
abbrev pub LeavesMigrated : List ℕ → List ℕ → Status → World → World → Contents → Contents → Contents → Type 0
LeavesMigrated input output status.Done before now inputs old new = IsMigrated input output inputs old new before.said now.said
LeavesMigrated input output status.WriteFault before now inputs old new =
    (IsAtText input output inputs old new before.said now.said × Rose before.writing.spoiled now.writing.spoiled) ⊎ IsAtLine input output inputs old new before.said now.said
LeavesMigrated input output status.OutOfMemory before now inputs old new =
    IsAtText input output inputs old new before.said now.said ⊎ IsAtLine input output inputs old new before.said now.said
LeavesMigrated input output status.ReadFault before now inputs old new = new ≡ old
LeavesMigrated input output (status.BadTable refusal) before now inputs old new = new ≡ old
LeavesMigrated input output _ before now inputs old new = ⊥

-- What the migration leaves: OUT holds a text that spells the same table in the newer edition, and the sink took its line.
pub record KeepsMigration (input output : List ℕ) (result : Status) (before now : World) (history : Option HistoryValue) : Type 0 where
  pub files : Told before.reading.held (λ inputs. Moves before.writing.held now.writing.held (LeavesMigrated input output result before now inputs))
  -- what is read holds what it held
  pub read_kept : now.reading.held ≡ before.reading.held
  pub line : Answers IsMigratedLine result before.said now.said
  pub refused : Told before.reading.held (λ m. RefusesAs (content m input) result)
  pub cause : HasOneCause result before now
  pub failed_read : FailedIn input result before.reading.last now.reading.last
  pub complete : Told before.reading.held (λ m. IsComplete (content m input) result before now)
  pub none : history ≡ None
