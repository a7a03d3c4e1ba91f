-- What records write behind what earlier ones wrote, and totals counted record by record.
use Rattle.std.proofs.Common.{◌≡◌, ℕ, ◌+◌, ◌-◌, Bool, true, false, List, [], ◌∷◌, ◌++◌, length, take, refl, sym, ◌∙◌, ap, append_assoc, length-append, take-add, arith}
use Rattle.std.proofs.lemmas.List.Concat.{flat_map-append}
use Rattle.aftr_text.specs.declared.summaries.Totals.{Totals}
use Rattle.capture_io.specs.declared.forms.Rec.{Rec}
use Rattle.capture_io.specs.declared.written.Written.{Written}
use Rattle.item_stage.specs.Items.{entries_of}
use Rattle.item_stage.specs.declared.entries.Entry.{Entry}
use Rattle.run_output.specs.Counting.{no_totals, one_if, totals_from, with_record, with_version}
use Rattle.run_output.specs.Laws.{CountsAreTotals, LoadLinesJoin, RoundsJoin}
use Rattle.run_output.specs.Outputs.{Course, all_sent_from, how_many, is_dropped, is_forwarded, is_held, lines_at, lines_from, packets_at, packets_from, sent_at, totals_of, verdict_at, verdicts_from}
use Rattle.run_output.specs.Versions.{between, load_lines, slot_text}
use Rattle.run_output.proofs.CountLemmas.{same_totals}
use Rattle.verdict_core.specs.declared.verdicts.Verdict.{Verdict}

packets_join : (c : Course) (w : Written) (number at : ℕ) (rs ss : List Rec) (es fs : List Entry) → length es ≡ length rs → at ≡ number + length rs →
    packets_from c w number (rs ++ ss) (es ++ fs) ≡ packets_from c w number rs es ++ packets_from c w at ss fs
packets_join c w number at [] ss [] fs same is =
    let here : number ≡ at = omega (arith, is) in ap (λ (k : ℕ). packets_from c w k ss fs) here
packets_join c w number at [] ss (e ∷ es) fs same is = absurd (omega (arith, same))
packets_join c w number at (r ∷ rs) ss [] fs same is = absurd (omega (arith, same))
packets_join c w number at (r ∷ rs) ss (e ∷ es) fs same is =
    ap (λ l. packets_at c w number r e ++ l) (packets_join c w (number + 1) at rs ss es fs (omega (arith, same)) (omega (arith, is)))
    ∙ sym (append_assoc (packets_at c w number r e) (packets_from c w (number + 1) rs es) (packets_from c w at ss fs))

lines_join : (c : Course) (number at : ℕ) (es fs : List Entry) → at ≡ number + length es →
    lines_from c number (es ++ fs) ≡ lines_from c number es ++ lines_from c at fs
lines_join c number at [] fs is =
    let here : number ≡ at = omega (arith, is) in ap (λ (k : ℕ). lines_from c k fs) here
lines_join c number at (e ∷ es) fs is =
    ap (λ l. lines_at c number e ++ l) (lines_join c (number + 1) at es fs (omega (arith, is)))
    ∙ sym (append_assoc (lines_at c number e) (lines_from c (number + 1) es) (lines_from c at fs))

totals_join : (c : Course) (totals : Totals) (number at : ℕ) (es fs : List Entry) → at ≡ number + length es →
    totals_from c totals number (es ++ fs) ≡ totals_from c (totals_from c totals number es) at fs
totals_join c totals number at [] fs is =
    let here : number ≡ at = omega (arith, is) in ap (λ (k : ℕ). totals_from c totals k fs) here
totals_join c totals number at (e ∷ es) fs is =
    totals_join c (with_record totals (verdict_at c number e.item) (length (sent_at c number e.item))) (number + 1) at es fs (omega (arith, is))

pub rounds_are_joined : RoundsJoin
rounds_are_joined c w number rs more es others same = record {
  packets = packets_join c w number (number + length rs) rs more es others same refl;
  lines = lines_join c number (number + length rs) es others (omega (arith, same));
  totals = λ before. totals_join c before number (number + length rs) es others (omega (arith, same));
}

one_more_by : (test : Verdict → Bool) (v : Verdict) (vs : List Verdict) (b : Bool) → test v ≡ b → how_many test (v ∷ vs) ≡ one_if b + how_many test vs
one_more_by test v vs true is = rw is (omega arith)
one_more_by test v vs false is = rw is (omega arith)

one_more : (test : Verdict → Bool) (v : Verdict) (vs : List Verdict) → how_many test (v ∷ vs) ≡ one_if (test v) + how_many test vs
one_more test v vs = one_more_by test v vs (test v) refl

-- each count, with these entries more
record AreAdded (c : Course) (before now : Totals) (number : ℕ) (es : List Entry) : Type 0 where
  records : now.records ≡ before.records + length es
  held : now.held ≡ before.held + how_many is_held (verdicts_from c number es)
  forwarded : now.forwarded ≡ before.forwarded + how_many is_forwarded (verdicts_from c number es)
  dropped : now.dropped ≡ before.dropped + how_many is_dropped (verdicts_from c number es)
  packets : now.packets ≡ before.packets + length (all_sent_from c number es)

added : (c : Course) (totals : Totals) (number : ℕ) (es : List Entry) → AreAdded c totals (totals_from c totals number es) number es
added c totals number [] = record { records = omega arith; held = omega arith; forwarded = omega arith; dropped = omega arith; packets = omega arith }
added c totals number (e ∷ es) =
    let v : Verdict = verdict_at c number e.item in
    let vs : List Verdict = verdicts_from c (number + 1) es in
    let rest : AreAdded c (with_record totals v (length (sent_at c number e.item))) (totals_from c totals number (e ∷ es)) (number + 1) es = added c (with_record totals v (length (sent_at c number e.item))) (number + 1) es in
    record {
      records = omega (arith, rest.records);
      held = omega (arith, rest.held, one_more is_held v vs);
      forwarded = omega (arith, rest.forwarded, one_more is_forwarded v vs);
      dropped = omega (arith, rest.dropped, one_more is_dropped v vs);
      packets = omega (arith, rest.packets, length-append (sent_at c number e.item) (all_sent_from c (number + 1) es));
    }

pub totals_are : CountsAreTotals
totals_are c form rs same =
    let now : Totals = totals_from c no_totals 0 (entries_of form rs) in
    let sums : AreAdded c no_totals now 0 (entries_of form rs) = added c no_totals 0 (entries_of form rs) in
    same_totals (totals_of c form rs) (with_version now c.loaded)
    (omega (arith, sums.records, same)) (omega (arith, sums.held)) (omega (arith, sums.forwarded)) (omega (arith, sums.dropped)) (omega (arith, sums.packets)) refl

pub load_lines_are_joined : LoadLinesJoin
load_lines_are_joined points loads from to order =
    let whole : from + (to - from) ≡ to = omega (arith, order) in
    sym (flat_map-append (λ load. slot_text points load.name load.slot) (take from loads) (between from to loads))
    ∙ (ap (load_lines points) (sym (take-add from (to - from) loads)) ∙ ap (λ (k : ℕ). load_lines points (take k loads)) whole)
