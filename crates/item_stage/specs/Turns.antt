-- What one record does: the lanes that take its fragments, and its entry.
use Rattle.std.specs.Prelude.{ℕ, suc, List, [], ◌∷◌, ◌++◌, slice_index_or}
use Rattle.capture_io.specs.Record.{nanoseconds}
use Rattle.capture_io.specs.declared.forms.Form.{Form}
use Rattle.capture_io.specs.declared.forms.Rec.{Rec}
use Rattle.ip_codec.specs.declared.items.Outer.{Outer}
use Rattle.ip_codec.specs.declared.items.Item.{Item}
use Rattle.ip_codec.specs.declared.items.Item.TheVariants as item
use Rattle.ip_codec.specs.declared.rules.Rule.{Rule}
use Rattle.ip_codec.specs.declared.rules.Rule.TheVariants as rule
use Rattle.reassembly_lane.specs.Lanes.{Arrival}
use Rattle.reassembly_lane.specs.declared.answer.Answer.{Answer}
use Rattle.reassembly_lane.specs.declared.answer.Answer.TheVariants as answer
use Rattle.reassembly_lane.specs.declared.answer.FragBad.{FragBad}
use Rattle.reassembly_lane.specs.declared.answer.FragBad.TheVariants as bad
use Rattle.reassembly_lane.specs.declared.parts.Part.{Part}
use Rattle.item_stage.specs.Alone.{Alone, Inside, Settled, Fragment, Ready, Downstream, CutPart, Carries, alone_of, behind_fragment}
use Rattle.item_stage.specs.Fragments.{by_down_key, by_inner_key, by_outer_key, lane_of}
use Rattle.item_stage.specs.Ordered.{ascending}
use Rattle.item_stage.specs.Rejoined.{rejoined}
use Rattle.item_stage.specs.Waiting.{RowTurn, Waiting, no_row, numbers_in, row_fed}
use Rattle.item_stage.specs.declared.entries.Entry.{Entry}
use Rattle.item_stage.specs.declared.keys.DownKey.{DownKey}
use Rattle.item_stage.specs.declared.keys.InnerKey.{InnerKey}
use Rattle.item_stage.specs.declared.keys.OuterKey.{OuterKey}
use Rattle.item_stage.specs.declared.rows.Rows.{Rows}

-- nothing waits
abbrev pub no_rows : Rows
no_rows = record { outer = no_row; inner = no_row; down = no_row }

-- the rules of a lane's refusals
abbrev pub rule_of : FragBad → Rule
rule_of bad.Odd = rule.FragOdd
rule_of bad.Long = rule.FragLong
rule_of bad.Overlap = rule.FragOverlap
rule_of bad.Many = rule.FragMany
rule_of bad.Full = rule.FragFull

-- what becomes of a fragment from the IPv4 network, by its lane's answer
abbrev pub down_item : Answer → Item
down_item answer.Held = item.Held
down_item (answer.Whole head body) = item.Down (rejoined head body)
down_item (answer.Refused why) = item.Bad (rule_of why)

-- The same in the tunnel. The outer fields are those of the record that the datagram is whole with.
abbrev pub up_item : Outer → Answer → Item
up_item outer answer.Held = item.Held
up_item outer (answer.Whole head body) = item.Up outer (rejoined head body)
up_item outer (answer.Refused why) = item.Bad (rule_of why)

-- What a record does.
pub record Turn : Type 0 where
  pub rows : Rows
  pub entry : Entry

abbrev pub turned : Rows → List ℕ → Item → Turn
turned rows ended what = record { rows = rows; entry = record { ended = ended; item = what } }

abbrev pub arriving : {K : Type 0} → K → ℕ → ℕ → Part → Arrival K
arriving key time number part = record { key = key; time = time; number = number; part = part }

-- a fragment of a datagram with this key in its lane
abbrev pub down_fed : Waiting DownKey → ℕ → ℕ → DownKey → Part → RowTurn DownKey
down_fed row time number key part = row_fed by_down_key row (lane_of key.id) (arriving key time number part)

abbrev pub inner_fed : Waiting InnerKey → ℕ → ℕ → InnerKey → Part → RowTurn InnerKey
inner_fed row time number key part = row_fed by_inner_key row (lane_of key.id) (arriving key time number part)

abbrev pub outer_fed : Waiting OuterKey → ℕ → ℕ → OuterKey → Part → RowTurn OuterKey
outer_fed row time number key part = row_fed by_outer_key row (lane_of key.id) (arriving key time number part)

abbrev pub with_inner : Rows → Waiting InnerKey → Rows
with_inner rows row = record rows { inner = row }

abbrev pub down_turn : Rows → RowTurn DownKey → Turn
down_turn rows turn = turned (record rows { down = turn.row }) turn.ended (down_item turn.answer)

-- what ended with a tunnel packet's fragment stands with what ends with the fragment that the packet carries
abbrev pub inner_turn : Rows → List ℕ → Outer → RowTurn InnerKey → Turn
inner_turn rows ended outer turn = turned (with_inner rows turn.row) (ascending (ended ++ turn.ended)) (up_item outer turn.answer)

abbrev pub inside_turn : Rows → ℕ → ℕ → List ℕ → Inside → Turn
inside_turn rows time number ended (Settled ready) = turned rows ended ready
inside_turn rows time number ended (Fragment outer key part) =
    inner_turn rows ended outer (inner_fed rows.inner time number key part)

-- the number of the first header in what was put together
abbrev pub first_next : List ℕ → ℕ
first_next head = slice_index_or head 0 0

-- a tunnel packet that is whole goes on with what it carries
abbrev pub outer_turn : Rows → ℕ → ℕ → List ℕ → Outer → Answer → Turn
outer_turn rows time number ended outer answer.Held = turned rows ended item.Held
outer_turn rows time number ended outer (answer.Whole head body) = inside_turn rows time number ended (behind_fragment outer (first_next head) body)
outer_turn rows time number ended outer (answer.Refused why) = turned rows ended (item.Bad (rule_of why))

abbrev pub cut_turn : Rows → ℕ → ℕ → Outer → RowTurn OuterKey → Turn
cut_turn rows time number outer turn = outer_turn (record rows { outer = turn.row }) time number turn.ended outer turn.answer

-- what a record of this time and number does, by what it is by itself
abbrev pub turn_of : Rows → ℕ → ℕ → Alone → Turn
turn_of rows time number (Ready ready) = turned rows [] ready
turn_of rows time number (Downstream key part) =
    down_turn rows (down_fed rows.down time number key part)
turn_of rows time number (CutPart outer key part) =
    cut_turn rows time number outer (outer_fed rows.outer time number key part)
turn_of rows time number (Carries inside) = inside_turn rows time number [] inside

abbrev pub turn : Form → Rows → ℕ → Rec → Turn
turn form rows number r = turn_of rows (nanoseconds form r.seconds r.fraction) number (alone_of form r.bytes)

-- what waits after records of which the first has a number, and their entries
abbrev pub rows_after : Form → Rows → ℕ → List Rec → Rows
rows_after form rows number [] = rows
rows_after form rows number (r ∷ rs) = rows_after form (turn form rows number r).rows (suc number) rs

abbrev pub entries_from : Form → Rows → ℕ → List Rec → List Entry
entries_from form rows number [] = []
entries_from form rows number (r ∷ rs) = (turn form rows number r).entry ∷ entries_from form (turn form rows number r).rows (suc number) rs

-- the first number of each datagram that waits, ascending
abbrev pub all_waiting : Rows → List ℕ
all_waiting rows = ascending (numbers_in rows.outer ++ numbers_in rows.inner ++ numbers_in rows.down)
