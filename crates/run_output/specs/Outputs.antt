-- What one router writes that takes the records in order, each under the table in force at its number: the packets sent, a
-- line for each record, and the totals. No worker, area or thread stands here. The texts and the order are ours.
use Rattle.std.specs.Prelude.{ℕ, ◌+◌, Bool, true, false, List, [], ◌∷◌, ◌++◌, length, filter, flat_map}
use Rattle.binding_rules.specs.Tables.{BindingTable}
use Rattle.capture_io.specs.declared.forms.Form.{Form}
use Rattle.capture_io.specs.declared.forms.Rec.{Rec}
use Rattle.capture_io.specs.Packets.{file_head, packet_bytes}
use Rattle.capture_io.specs.declared.written.Written.{Written}
use Rattle.ip_codec.specs.declared.items.Item.{Item}
use Rattle.item_stage.specs.declared.entries.Entry.{Entry}
use Rattle.item_stage.specs.Items.{entries_of, unfinished_of}
use Rattle.packet_render.specs.Sent.{sent}
pub use Rattle.packet_render.specs.Sent.{is_forwarded}
use Rattle.verdict_core.specs.Verdicts.{verdict_of}
use Rattle.verdict_core.specs.declared.verdicts.Verdict.{Verdict}
use Rattle.verdict_core.specs.declared.verdicts.Verdict.TheVariants as verdict
use Rattle.aftr_text.specs.declared.summaries.Totals.{Totals}
use Rattle.aftr_text.specs.Lines.{ended_text, limited_text, verdict_text}

-- The tables of a run by their versions; by the number of a record, the version in force and whether its error was kept back
-- by the limit on errors; and how many tables came into force after the first one.
pub record Course : Type 0 where
  pub tables : ℕ → BindingTable
  pub version : ℕ → ℕ
  pub limited : ℕ → Bool
  pub loaded : ℕ

-- the verdict on the item of the record with this number
abbrev pub verdict_at : Course → ℕ → Item → Verdict
verdict_at c number i = verdict_of (c.tables (c.version number)) i

-- the packets of an item with this verdict, or none where its error is kept back
abbrev pub sent_unless : Bool → Item → Verdict → ℕ → List (List ℕ)
sent_unless true i v number = []
sent_unless false i v number = sent i v number

-- the packets sent for it
abbrev pub sent_at : Course → ℕ → Item → List (List ℕ)
sent_at c number i = sent_unless (c.limited number) i (verdict_at c number i) number

-- a record of the capture with its entry, as records of the capture that is written: each packet has the time of its record
abbrev pub packets_at : Course → Written → ℕ → Rec → Entry → List ℕ
packets_at c w number r e = flat_map (packet_bytes w r.seconds r.fraction) (sent_at c number e.item)

-- the records written for records from a number on
abbrev pub packets_from : Course → Written → ℕ → List Rec → List Entry → List ℕ
packets_from c w number (r ∷ rs) (e ∷ es) = packets_at c w number r e ++ packets_from c w (number + 1) rs es
packets_from c w number _ _ = []

-- the line of a record, by whether its error is kept back: an error is one about a packet that was dropped
abbrev pub record_text : Bool → ℕ → ℕ → Verdict → ℕ → List ℕ
record_text true number version (verdict.Drop why reply) packets = limited_text number version why
record_text _ number version v packets = verdict_text number version v packets

-- the datagrams that ended unfinished at a record, and the record's own line
abbrev pub lines_at : Course → ℕ → Entry → List ℕ
lines_at c number e =
    flat_map (ended_text true) e.ended
    ++ record_text (c.limited number) number (c.version number) (verdict_at c number e.item) (length (sent_at c number e.item))

-- the lines of records from a number on
abbrev pub lines_from : Course → ℕ → List Entry → List ℕ
lines_from c number [] = []
lines_from c number (e ∷ es) = lines_at c number e ++ lines_from c (number + 1) es

abbrev pub is_held : Verdict → Bool
is_held verdict.Held = true
is_held _ = false

abbrev pub is_dropped : Verdict → Bool
is_dropped (verdict.Drop why reply) = true
is_dropped _ = false

-- the verdicts on items from a number on
abbrev pub verdicts_from : Course → ℕ → List Entry → List Verdict
verdicts_from c number [] = []
verdicts_from c number (e ∷ es) = verdict_at c number e.item ∷ verdicts_from c (number + 1) es

-- all packets sent for them
abbrev pub all_sent_from : Course → ℕ → List Entry → List (List ℕ)
all_sent_from c number [] = []
all_sent_from c number (e ∷ es) = sent_at c number e.item ++ all_sent_from c (number + 1) es

-- how many of the verdicts are so
abbrev pub how_many : (Verdict → Bool) → List Verdict → ℕ
how_many test verdicts = length (filter test verdicts)

-- the capture that is written, in its own form, for the records of one that was read
abbrev pub output_of : Course → Written → Form → List Rec → List ℕ
output_of c w form rs = file_head w ++ packets_from c w 0 rs (entries_of form rs)

-- the lines of all records, and then of the datagrams that were never whole
abbrev pub verdicts_of : Course → Form → List Rec → List ℕ
verdicts_of c form rs = lines_from c 0 (entries_of form rs) ++ flat_map (ended_text false) (unfinished_of form rs)

-- the totals of a run; the version is the number of tables that came into force after the first
abbrev pub totals_of : Course → Form → List Rec → Totals
totals_of c form rs =
    let verdicts : List Verdict = verdicts_from c 0 (entries_of form rs) in record {
      records = length rs;
      held = how_many is_held verdicts;
      forwarded = how_many is_forwarded verdicts;
      dropped = how_many is_dropped verdicts;
      packets = length (all_sent_from c 0 (entries_of form rs));
      version = c.loaded;
    }
