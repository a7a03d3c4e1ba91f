-- The records of a round, each with all that its rendering needs, and what they write by themselves. No public contract cites
-- this.
use Rattle.std.specs.Prelude.{◌≡◌, ℕ, ◌+◌, ◌*◌, ◌^◌, ◌<◌, ◌≤◌, Bool, true, false, not, if◌then◌else◌, List, [], ◌∷◌, ◌++◌}
use Rattle.std.specs.Prelude.{length, take, drop, flat_map, get_or, slice_get, slice_index_or, Option, Some}
use Rattle.aftr_text.specs.declared.summaries.Totals.{Totals}
use Rattle.aftr_text.specs.Lines.{ended_text}
use Rattle.capture_io.specs.Packets.{packet_bytes}
use Rattle.capture_io.specs.Record.{nanoseconds}
use Rattle.capture_io.specs.declared.forms.Form.{Form}
use Rattle.capture_io.specs.declared.forms.Rec.{Rec}
use Rattle.capture_io.specs.declared.records.RecordView.{RecordView}
use Rattle.capture_io.specs.declared.written.Written.{Written}
use Rattle.error_limit.specs.Limits.{Bucket}
use Rattle.ip_codec.specs.declared.items.Item.{Item}
use Rattle.item_stage.specs.Items.{items_in}
use Rattle.item_stage.specs.declared.entries.Entry.{Entry}
use Rattle.run_output.specs.Counting.{IsWithin, no_totals, with_record}
use Rattle.run_output.specs.Limiting.{WasAsked, tells}
use Rattle.run_output.specs.Outputs.{record_text, sent_unless}
use Rattle.run_output.specs.Rendering.{AreFitting}
use Rattle.worker_gate.specs.declared.outcomes.Outcome.{Outcome}
use Rattle.run_output.specs.declared.parts.Part.{Part}
use Rattle.run_output.specs.declared.rounds.DrawnRound.{DrawnRound}
use Rattle.run_output.specs.declared.rounds.Round.{Round}
use Rattle.packet_render.specs.Pushed.{ArePushed}
use Rattle.packet_render.specs.Sent.{is_forwarded, sent}
use Rattle.verdict_core.specs.Fitting.{Fits, HasRoom}
use Rattle.verdict_core.specs.declared.verdicts.Verdict.{Verdict}

pub record Cell : Type 0 where
  pub number : ℕ
  pub seconds : ℕ
  pub fraction : ℕ
  pub ended : List ℕ
  pub item : Item
  pub version : ℕ
  pub verdict : Verdict
  pub limited : Bool

abbrev pub cell_of : ℕ → Rec → Entry → Outcome → Bool → Cell
cell_of number r e o limited = record {
  number = number;
  seconds = r.seconds;
  fraction = r.fraction;
  ended = e.ended;
  item = e.item;
  version = o.version;
  verdict = o.verdict;
  limited = limited;
}

-- the records of a round, the first of which has this number
abbrev pub cells : ℕ → List Rec → List Entry → List Outcome → List Bool → List Cell
cells number (r ∷ rs) (e ∷ es) (o ∷ os) (l ∷ ls) = cell_of number r e o l ∷ cells (number + 1) rs es os ls
cells number _ _ _ _ = []

-- those of a round
abbrev pub cells_in : Round → List Cell
cells_in r = cells r.start r.records.now r.items.now r.outcomes.now r.limited.now

-- each record of the round has an outcome that fits its item
abbrev pub IsFitting : Round → Type 0
IsFitting r = AreFitting r.items.now r.outcomes.now

abbrev pub packets_sent : Cell → List (List ℕ)
packets_sent c = sent_unless c.limited c.item c.verdict c.number

abbrev pub packets_of : Written → Cell → List ℕ
packets_of w c = flat_map (packet_bytes w c.seconds c.fraction) (packets_sent c)

abbrev pub lines_of : Cell → List ℕ
lines_of c = flat_map (ended_text true) c.ended ++ record_text c.limited c.number c.version c.verdict (length (packets_sent c))

-- the totals with these records more
abbrev pub counted : Totals → List Cell → Totals
counted totals [] = totals
counted totals (c ∷ cs) = counted (with_record totals c.verdict (length (packets_sent c))) cs

-- the totals of records, and of others
abbrev pub plus : Totals → Totals → Totals
plus a b = record {
  records = a.records + b.records;
  held = a.held + b.held;
  forwarded = a.forwarded + b.forwarded;
  dropped = a.dropped + b.dropped;
  packets = a.packets + b.packets;
  version = a.version;
}

-- a part of a round, by its place and by how many records each has
abbrev pub chunk : ℕ → ℕ → List Cell → List Cell
chunk size place cs = take size (drop (place * size) cs)

-- the part holds what these records write
pub record IsPart (w : Written) (cs : List Cell) (p : Part) : Type 0 where
  pub packets : p.packets.items ≡ flat_map (packets_of w) cs
  pub lines : p.lines.items ≡ flat_map lines_of cs
  pub counts : p.counted ≡ counted no_totals cs
  pub within : IsWithin p.counted (length cs)

-- it does, unless memory was wanted
abbrev pub IsPartUnless : Written → List Cell → Part → Type 0
IsPartUnless w cs p = p.failed ≡ false → IsPart w cs p

-- each of these parts holds what its records write, unless memory was wanted
abbrev pub ArePartsUnless : Written → ℕ → List Cell → List Part → Type 0
ArePartsUnless w size cs parts = (place : ℕ) (d : Part) → place < length parts → IsPartUnless w (chunk size place cs) (slice_index_or parts place d)

-- the same of the parts from a place on
abbrev pub ArePartsFrom : Written → ℕ → ℕ → List Cell → List Part → Type 0
ArePartsFrom w size from cs parts = (place : ℕ) (d : Part) → place < length parts → IsPartUnless w (chunk size (from + place) cs) (slice_index_or parts place d)

-- Whoever adds the counts of parts of these records one after another has counted the records of the first i of them, and what is
-- left gives the whole.
pub record AreCounted (size : ℕ) (cs : List Cell) (number i : ℕ) (before now : Totals) : Type 0 where
  pub reached : ℕ
  pub within : IsWithin now reached
  pub left : reached + length (drop (i * size) cs) ≡ number + length cs
  pub totals : counted now (drop (i * size) cs) ≡ counted before cs

-- a record by what is seen of it
abbrev pub shown : ℕ → RecordView → Entry → Outcome → Bool → Cell
shown number r e o limited = record {
  number = number;
  seconds = r.seconds;
  fraction = r.fraction;
  ended = e.ended;
  item = e.item;
  version = o.version;
  verdict = o.verdict;
  limited = limited;
}

-- the verdict fits the item at this index
abbrev pub FitsAt : List Entry → ℕ → Verdict → Type 0
FitsAt entries index v = (i : Item) → slice_get (items_in entries) index ≡ Some i → Fits i v

-- what the packets of the record at an index are made by: its verdict, which fits its item and names sizes that every link takes
pub record CanBeSent (r : DrawnRound) (index : ℕ) (v : Verdict) : Type 0 where
  pub inside : index < length r.records.now
  pub fits : FitsAt r.items.now index v
  pub room : HasRoom v

-- the same of a record whose own packet goes on
pub record CanGoOn (r : DrawnRound) (index : ℕ) (v : Verdict) : Type 0 where
  pub can : CanBeSent r index v
  pub forwarded : is_forwarded v ≡ true

-- what is sent for the record at an index by its verdict stands behind what was there, each packet with the record's time: so many
pub record IsSent (r : DrawnRound) (number index seconds fraction : ℕ) (v : Verdict) (before after : List ℕ) (count : ℕ) : Type 0 where
  pub pushed : (i : Item) → slice_get (items_in r.items.now) index ≡ Some i →
      ArePushed (packet_bytes r.written seconds fraction) (sent i v number) before after count
  pub few : count ≤ 128

-- a part with what one record more writes
pub record IsMore (w : Written) (c : Cell) (old new : Part) : Type 0 where
  pub packets : new.packets.items ≡ old.packets.items ++ packets_of w c
  pub lines : new.lines.items ≡ old.lines.items ++ lines_of c
  pub counts : new.counted ≡ with_record old.counted c.verdict (length (packets_sent c))

-- the lists of a round belong together
pub record AreReady (start : ℕ) (records : List Rec) (entries : List Entry) (outcomes : List Outcome) (limited : List Bool) : Type 0 where
  pub same : length entries ≡ length records
  pub marked : length limited ≡ length records
  pub few : start + length records ≤ 2 ^ 31
  pub fitting : AreFitting entries outcomes

-- the times of errors, by the outcomes of their records
abbrev pub time_if : Bool → ℕ → List ℕ
time_if true time = time ∷ []
time_if false time = []

abbrev pub times_by : Form → List Rec → List Outcome → List ℕ
times_by form (r ∷ rs) (o ∷ os) = time_if (tells o.verdict) (nanoseconds form r.seconds r.fraction) ++ times_by form rs os
times_by form _ _ = []

-- which records have an error that is kept back, by the marks of the errors
abbrev pub limited_by : List Outcome → List Bool → List Bool
limited_by [] sent = []
limited_by (o ∷ os) sent =
    (if tells o.verdict then not (get_or sent 0 true) else false) ∷ limited_by os (if tells o.verdict then drop 1 sent else sent)

-- What is known of a limiter that was asked about the first i records of a round, behind errors of these times that it marked
-- so: with what the rest gives, that is the whole.
pub record AreMarked (form : Form) (rs : List Rec) (os : List Outcome) (i : ℕ) (now : Option Bucket) (limited : List Bool) (times : List ℕ)
    (sent : List Bool) : Type 0 where
  pub told : List ℕ
  pub news : List Bool
  pub asked : WasAsked now (times ++ told) (sent ++ news)
  pub told_left : told ++ times_by form (drop i rs) (drop i os) ≡ times_by form rs os
  pub limited_left : (later : List Bool) → limited ++ limited_by (drop i os) later ≡ limited_by os (news ++ later)

abbrev pub HasMarked : Form → List Rec → List Outcome → ℕ → Option Bucket → Option Bucket → List Bool → Type 0
HasMarked form rs os i old now limited =
    (times : List ℕ) (sent : List Bool) → WasAsked old times sent → AreMarked form rs os i now limited times sent
