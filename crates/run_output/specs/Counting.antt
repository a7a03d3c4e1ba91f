-- Counting record by record.
use Rattle.std.specs.Prelude.{ℕ, ◌+◌, ◌*◌, ◌≡◌, ◌≤◌, Bool, if◌then◌else◌, List, [], ◌∷◌, length}
use Rattle.aftr_text.specs.declared.summaries.Totals.{Totals}
use Rattle.item_stage.specs.declared.entries.Entry.{Entry}
use Rattle.run_output.specs.Outputs.{Course, is_dropped, is_forwarded, is_held, sent_at, verdict_at}
use Rattle.verdict_core.specs.declared.verdicts.Verdict.{Verdict}

abbrev pub one_if : Bool → ℕ
one_if test = if test then 1 else 0

-- the totals with one record more
abbrev pub with_record : Totals → Verdict → ℕ → Totals
with_record totals v packets = record {
  records = totals.records + 1;
  held = totals.held + one_if (is_held v);
  forwarded = totals.forwarded + one_if (is_forwarded v);
  dropped = totals.dropped + one_if (is_dropped v);
  packets = totals.packets + packets;
  version = totals.version;
}

-- the totals with these entries more, from a number on
abbrev pub totals_from : Course → Totals → ℕ → List Entry → Totals
totals_from c totals number [] = totals
totals_from c totals number (e ∷ es) =
    totals_from c (with_record totals (verdict_at c number e.item) (length (sent_at c number e.item))) (number + 1) es

abbrev pub no_totals : Totals
no_totals = record { records = 0; held = 0; forwarded = 0; dropped = 0; packets = 0; version = 0 }

-- so many records were counted, no count of records is above their number, and each sent at most 128 packets
pub record IsWithin (totals : Totals) (number : ℕ) : Type 0 where
  pub records : totals.records ≡ number
  pub held : totals.held ≤ number
  pub forwarded : totals.forwarded ≤ number
  pub dropped : totals.dropped ≤ number
  pub packets : totals.packets ≤ 128 * number

-- the totals of a run that put so many tables into force after the first one
abbrev pub with_version : Totals → ℕ → Totals
with_version totals version = record {
  records = totals.records;
  held = totals.held;
  forwarded = totals.forwarded;
  dropped = totals.dropped;
  packets = totals.packets;
  version = version;
}
