-- What is kept of a record of which a lane took a fragment, as its entry.
use Rattle.std.specs.Prelude.{◌≡◌, ℕ, ◌<◌, List, [], ◌∷◌, ◌++◌, length, slice_get, Option, Some, None}
use Rattle.capture_io.specs.declared.forms.Form.{Form}
use Rattle.capture_io.specs.declared.forms.Rec.{Rec}
use Rattle.ip_codec.specs.declared.items.Item.{Item}
use Rattle.ip_codec.specs.declared.items.Item.TheVariants as item
use Rattle.item_stage.specs.Alone.{behind_fragment, item_of, item_inside}
use Rattle.item_stage.specs.Turns.{Turn, turn}
use Rattle.item_stage.specs.declared.entries.Entry.{Entry}
use Rattle.item_stage.specs.declared.marks.Found.{Found}
use Rattle.item_stage.specs.declared.marks.Found.TheVariants as found
use Rattle.item_stage.specs.declared.marks.Outcome.{Outcome}
use Rattle.item_stage.specs.declared.marks.Outcome.TheVariants as outcome
use Rattle.item_stage.specs.declared.marks.Mark.{Mark}
use Rattle.item_stage.specs.declared.marks.Slot.{Slot}
use Rattle.item_stage.specs.declared.marks.Slot.TheVariants as slot
use Rattle.item_stage.specs.declared.rows.Rows.{Rows}

abbrev pub outcome_item : Outcome → Item
outcome_item outcome.Held = item.Held
outcome_item (outcome.Bad why) = item.Bad why
outcome_item (outcome.Down datagram) = item.Down (datagram.header ++ datagram.payload)
outcome_item (outcome.Up outer datagram) = item.Up outer (datagram.header ++ datagram.payload)
outcome_item (outcome.Carries outer next body) = item_inside (behind_fragment outer next body)

abbrev pub marked : Mark → Entry
marked mark = record { ended = mark.ended; item = outcome_item mark.outcome }

-- the mark of a fragment that waits, where nothing ended with its record
abbrev pub waiting : Mark
waiting = record { ended = []; outcome = outcome.Held }

-- the mark that a record's slot says, of those of its round
abbrev pub slot_mark : List Mark → Slot → Option Mark
slot_mark marks slot.Alone = None
slot_mark marks slot.Waits = Some waiting
slot_mark marks (slot.At place) = slice_get marks place

abbrev pub IsPlaced : List Mark → Slot → Type 0
IsPlaced marks slot.Alone = Unit {0}
IsPlaced marks slot.Waits = Unit {0}
IsPlaced marks (slot.At place) = place < length marks

abbrev pub found_mark : Found → Option Mark
found_mark found.Alone = None
found_mark found.Waits = Some waiting
found_mark (found.Marked mark) = Some mark.now

-- the marks of a round: that of each record, and for how many records there is room
pub record Kept : Type 0 where
  pub slots : List (Option Mark)
  pub room : ℕ

-- a record with no mark is what it is by itself
abbrev pub entry_by : Item → Option Mark → Entry
entry_by alone None = record { ended = []; item = alone }
entry_by alone (Some mark) = marked mark

abbrev pub turning : Rows → Entry → Turn
turning rows entry = record { rows = rows; entry = entry }

-- the entries of records, each with its mark
abbrev pub entries_by : Form → List Rec → List (Option Mark) → List Entry
entries_by form [] marks = []
entries_by form (r ∷ rs) [] = []
entries_by form (r ∷ rs) (mark ∷ marks) = entry_by (item_of form r.bytes) mark ∷ entries_by form rs marks

-- a record went to the lanes, and its mark was put behind those before
pub record HasMarked (form : Form) (number : ℕ) (r : Rec) (rows next : Rows) (before after : List (Option Mark)) : Type 0 where
  pub slot : Option Mark
  pub slots : after ≡ before ++ slot ∷ []
  pub turn : turning next (entry_by (item_of form r.bytes) slot) ≡ turn form rows number r
