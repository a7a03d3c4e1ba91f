-- What records become: an item each, and the numbers of the datagrams that end with it unfinished.
use Rattle.std.specs.Prelude.{ℕ, List, map}
use Rattle.capture_io.specs.declared.forms.Form.{Form}
use Rattle.capture_io.specs.declared.forms.Rec.{Rec}
use Rattle.ip_codec.specs.declared.items.Item.{Item}
use Rattle.item_stage.specs.Turns.{no_rows, rows_after, entries_from, all_waiting}
use Rattle.item_stage.specs.declared.entries.Entry.{Entry}
use Rattle.item_stage.specs.declared.rows.Rows.{Rows}

-- the entries of all records that were taken, in their order, the first of which has the number 0
abbrev pub entries_of : Form → List Rec → List Entry
entries_of form records = entries_from form no_rows 0 records

-- the items of entries
abbrev pub items_in : List Entry → List Item
items_in entries = map (λ entry. entry.item) entries

-- what waits after them
abbrev pub rows_of : Form → List Rec → Rows
rows_of form records = rows_after form no_rows 0 records

-- the first record's number of each datagram that is unfinished after these records, ascending
abbrev pub unfinished_of : Form → List Rec → List ℕ
unfinished_of form records = all_waiting (rows_of form records)
