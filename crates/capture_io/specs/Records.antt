-- Records whose bytes stand in a buffer.
use Rattle.std.specs.Prelude.{ℕ, ◌+◌, ◌≤◌, List, length}
use Rattle.aftr_base.specs.Numbers.{span}
use Rattle.capture_io.specs.declared.forms.Rec.{Rec}
use Rattle.capture_io.specs.declared.records.Place.{Place}
use Rattle.capture_io.specs.declared.records.RecordView.{RecordView}

-- the record that stands at a place of a buffer
abbrev pub placed : List ℕ → Place → Rec
placed buffer p = record { seconds = p.seconds; fraction = p.fraction; bytes = span buffer p.from p.count; next_at = p.next_at }

-- its bytes lie in the buffer
abbrev pub IsWithin : List ℕ → Place → Type 0
IsWithin buffer p = p.from + p.count ≤ length buffer

-- a view, as the record that it shows
abbrev pub seen : RecordView → Rec
seen v = record { seconds = v.seconds; fraction = v.fraction; bytes = v.bytes.now; next_at = v.next_at }
