-- What a stage is seen as, and which records it stands for.
use Rattle.std.specs.Prelude.{◌≡◌, ℕ, Bool, true, false, List, length}
use Rattle.capture_io.specs.declared.forms.Form.{Form}
use Rattle.capture_io.specs.declared.forms.Rec.{Rec}
use Rattle.item_stage.specs.Items.{rows_of}
use Rattle.item_stage.specs.declared.entries.Entry.{Entry}
use Rattle.item_stage.specs.declared.rows.Rows.{Rows}

pub record Staged : Type 0 where
  -- that of the capture whose records are taken
  pub form : Form
  -- how many records were taken: the number of the next one
  pub number : ℕ
  -- whether memory was wanted while records were taken
  pub failed : Bool
  -- the fragments that wait
  pub rows : Rows

-- what a staged round is seen as: its records, and an entry for each that a stage has taken
pub record StagedRecords : Type 0 where
  pub records : List Rec
  pub entries : List Entry

-- the stage has taken these records, all of them, and what it keeps is what they leave
pub record Stands (stage : Staged) (taken : List Rec) : Type 0 where
  pub sound : stage.failed ≡ false
  pub number : stage.number ≡ length taken
  pub rows : stage.rows ≡ rows_of stage.form taken

-- the stage takes no more records
abbrev pub HasFailed : Staged → Type 0
HasFailed stage = stage.failed ≡ true
