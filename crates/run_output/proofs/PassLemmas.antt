-- A round in one pass, record by record, and what that makes of the whole round.
use Rattle.std.proofs.Common.{◌≡◌, ℕ, zero, suc, ◌+◌, ◌-◌, ◌^◌, ◌<◌, ◌≤◌, Bool, true, false, not, List, [], ◌∷◌, ◌++◌, length, map, flat_map, Option, Some, slice_get, sym, ◌∙◌, ap, refl, subst, arith, append_assoc, append-nil, length-append}
use Rattle.std.specs.List.{range_with_len}
use Rattle.std.proofs.lemmas.List.{length-map}
use Rattle.std.proofs.lemmas.List.Concat.{flat_map-append}
use Rattle.aftr_text.specs.declared.summaries.Totals.{Totals}
use Rattle.area_swap.specs.declared.board.View.{View}
use Rattle.capture_io.specs.Record.{nanoseconds}
use Rattle.capture_io.specs.declared.forms.Rec.{Rec}
use Rattle.capture_io.specs.declared.written.Written.{Written}
use Rattle.error_limit.specs.Limits.{Bucket}
use Rattle.ip_codec.specs.declared.items.Item.{Item}
use Rattle.item_stage.specs.Items.{items_in}
use Rattle.item_stage.specs.declared.entries.Entry.{Entry}
use Rattle.run_output.specs.Cells.{Cell, HasMarked, IsMore, IsPart, cell_of, cells, counted, lines_of, packets_of, plus}
use Rattle.run_output.specs.Counting.{IsWithin, no_totals, totals_from, with_record}
use Rattle.run_output.specs.Limiting.{WasAsked, rate_of, tells}
use Rattle.run_output.specs.Outputs.{Course, sent_at, verdict_at}
use Rattle.run_output.specs.Passing.{HasBegunPass, HasCounted, HasPassed}
use Rattle.run_output.specs.Rendering.{IsRendered}
use Rattle.run_output.specs.declared.parts.Part.{Part}
use Rattle.run_output.specs.declared.rounds.DrawnRound.{DrawnRound}
use Rattle.swap_core.specs.States.{consecutive}
use Rattle.worker_gate.specs.declared.outcomes.Outcome.{Outcome}
use Rattle.worker_gate.specs.Holders.{HeldValue}
use Rattle.worker_gate.specs.Judging.{HasJudgedOne, HasRead}
use Rattle.worker_gate.specs.Outcomes.{draw_of}
use Rattle.worker_gate.specs.Turns.{DrawsNothing}
use Rattle.worker_gate.specs.WholeRounds.{AreOutcomes, HasJudgedWhole}
use Rattle.worker_gate.proofs.Judged.{run_more, run_none, run_whole}
use Rattle.worker_gate.proofs.WholeLemmas.{run_drawn, run_numbers}
use Rattle.run_output.proofs.CellLemmas.{cells_length}
use Rattle.run_output.proofs.CountLemmas.{counted_append, plus_within, same_totals}
use Rattle.run_output.proofs.CourseLemmas.{Matches, counts_are, lines_are, packets_are}
use Rattle.run_output.proofs.LimitLemmas.{OneMarking, asked_more, marks_match}
use Rattle.run_output.proofs.MarkLemmas.{marked_first, marked_more}

-- ---- cells and parts
cells_none : (n : ℕ) (rs : List Rec) (es : List Entry) (ls : List Bool) → cells n rs es [] ls ≡ []
cells_none n [] es ls = refl
cells_none n (r ∷ rs) [] ls = refl
cells_none n (r ∷ rs) (e ∷ es) ls = refl

-- one outcome and one mark more give one cell more
cells_more : (n : ℕ) (rs : List Rec) (es : List Entry) (os : List Outcome) (ls : List Bool) (r : Rec) (e : Entry) (o : Outcome) (l : Bool) →
    length ls ≡ length os → slice_get rs (length os) ≡ Some r → slice_get es (length os) ≡ Some e →
    cells n rs es (os ++ o ∷ []) (ls ++ l ∷ []) ≡ cells n rs es os ls ++ cell_of (n + length os) r e o l ∷ []
cells_more n [] es os ls r e o l same rec entry = absurd (cc rec)
cells_more n (x ∷ rs) [] os ls r e o l same rec entry = absurd (cc entry)
cells_more n (x ∷ rs) (y ∷ es) [] [] r e o l same rec entry =
    let place : n ≡ n + 0 = omega arith in
    let is_rec : x ≡ r = cc rec in
    let is_entry : y ≡ e = cc entry in
    (λ j. cell_of (place j) (is_rec j) (is_entry j) o l ∷ cells_none (n + 1) rs es [] j)
cells_more n (x ∷ rs) (y ∷ es) [] (a ∷ ls) r e o l same rec entry = absurd (cc same)
cells_more n (x ∷ rs) (y ∷ es) (p ∷ os) [] r e o l same rec entry = absurd (cc same)
cells_more n (x ∷ rs) (y ∷ es) (p ∷ os) (a ∷ ls) r e o l same rec entry =
    let place : n + 1 + length os ≡ n + suc (length os) = omega arith in
    ap (λ (cs : List Cell). cell_of n x y p a ∷ cs) (cells_more (n + 1) rs es os ls r e o l (omega (arith, same)) rec entry)
    ∙ ap (λ (m : ℕ). cell_of n x y p a ∷ (cells (n + 1) rs es os ls ++ cell_of m r e o l ∷ [])) place

-- a list of outcomes that ends early ends the list of cells
cells_front : (n : ℕ) (rs : List Rec) (es : List Entry) (os : List Outcome) (ls : List Bool) → length os ≤ length rs → length os ≤ length es →
    length ls ≡ length os → length (cells n rs es os ls) ≡ length os
cells_front n rs es [] ls a b c = ap length (cells_none n rs es ls)
cells_front n [] es (o ∷ os) ls a b c = absurd (omega (arith, a))
cells_front n (r ∷ rs) [] (o ∷ os) ls a b c = absurd (omega (arith, b))
cells_front n (r ∷ rs) (e ∷ es) (o ∷ os) [] a b c = absurd (omega (arith, c))
cells_front n (r ∷ rs) (e ∷ es) (o ∷ os) (l ∷ ls) a b c =
    ap suc (cells_front (n + 1) rs es os ls (omega (arith, a)) (omega (arith, b)) (omega (arith, c)))

-- a part with one record more
part_more : (w : Written) (cs : List Cell) (c : Cell) (p q : Part) → IsPart w cs p → IsMore w c p q → IsWithin q.counted q.counted.records →
    IsPart w (cs ++ c ∷ []) q
part_more w cs c p q part more within =
    let number : q.counted.records ≡ length (cs ++ c ∷ []) =
    omega (arith, ap (λ (t : Totals). t.records) more.counts, part.within.records, length-append cs (c ∷ [])) in
    record {
      packets = more.packets ∙ (ap (λ (l : List ℕ). l ++ packets_of w c) part.packets
          ∙ (ap (λ (l : List ℕ). flat_map (packets_of w) cs ++ l) (sym (append-nil (packets_of w c))) ∙ sym (flat_map-append (packets_of w) cs (c ∷ []))));
      lines = more.lines ∙ (ap (λ (l : List ℕ). l ++ lines_of c) part.lines
          ∙ (ap (λ (l : List ℕ). flat_map lines_of cs ++ l) (sym (append-nil (lines_of c))) ∙ sym (flat_map-append lines_of cs (c ∷ []))));
      counts = more.counts ∙ (ap (λ (t : Totals). counted t (c ∷ [])) part.counts ∙ sym (counted_append no_totals cs (c ∷ [])));
      within = subst (IsWithin q.counted) number within;
    }

at_end : (os later : List Outcome) (o : Outcome) → slice_get (os ++ o ∷ later) (length os) ≡ Some o
at_end [] later o = refl
at_end (x ∷ os) later o = at_end os later o

-- ---- the pass
pub pass_none : (r : DrawnRound) (v : HeldValue) (limit : Option Bucket) (p : Part) → IsPart r.written [] p → HasBegunPass r 0 v v limit limit p
pass_none r v limit p empty =
    record {
      outcomes = [];
      limited = [];
      many = refl;
      each_marked = refl;
      judged = run_none (items_in r.items.now) r.start v;
      part = subst (λ (cs : List Cell). IsPart r.written cs p) (sym (cells_none r.start r.records.now r.items.now [])) empty;
      marked = λ later. marked_first r.form r.records.now later limit;
      rate = refl;
    }

-- What became of one record: its item is judged, the limit is asked, and it is written.
pub record IsPassed (r : DrawnRound) (i : ℕ) (u t : HeldValue) (old new : Option Bucket) (p q : Part) (o : Outcome) (l : Bool) : Type 0 where
  pub rec : Rec
  pub entry : Entry
  pub item : Item
  pub its_rec : slice_get r.records.now i ≡ Some rec
  pub its_entry : slice_get r.items.now i ≡ Some entry
  pub its_item : slice_get (items_in r.items.now) i ≡ Some item
  pub judged : HasJudgedOne (r.start + i) item u t o
  pub more : IsMore r.written (cell_of (r.start + i) rec entry o l) p q
  pub within : IsWithin q.counted q.counted.records
  pub asked : tells o.verdict ≡ true → (times : List ℕ) (sent : List Bool) → WasAsked old times sent
      → WasAsked new (times ++ nanoseconds r.form rec.seconds rec.fraction ∷ []) (sent ++ not l ∷ [])
  pub unasked : tells o.verdict ≡ false → new ≡ old
  pub passes : tells o.verdict ≡ false → l ≡ false
  pub rate : rate_of new ≡ rate_of old

pub pass_more : (r : DrawnRound) (i : ℕ) (v u t : HeldValue) (limit old new : Option Bucket) (p q : Part) (o : Outcome) (l : Bool) →
    HasBegunPass r i v u limit old p → IsPassed r i u t old new p q o l → HasBegunPass r (i + 1) v t limit new q
pass_more r i v u t limit old new p q o l begun passed =
    let records : List Rec = r.records.now in
    let entries : List Entry = r.items.now in
    let os : List Outcome = begun.outcomes in
    let ls : List Bool = begun.limited in
    let there : i ≡ length os = sym begun.many in
    let both : length ls ≡ length os = begun.each_marked ∙ there in
    let next : suc i ≡ i + 1 = omega arith in
    let c : Cell = cell_of (r.start + length os) passed.rec passed.entry o l in
    let grown : cells r.start records entries (os ++ o ∷ []) (ls ++ l ∷ []) ≡ cells r.start records entries os ls ++ c ∷ [] =
    cells_more r.start records entries os ls passed.rec passed.entry o l both (ap (slice_get records) begun.many ∙ passed.its_rec)
    (ap (slice_get entries) begun.many ∙ passed.its_entry) in
    let put : IsMore r.written c p q = subst (λ (n : ℕ). IsMore r.written (cell_of (r.start + n) passed.rec passed.entry o l) p q) there passed.more in
    record {
      outcomes = os ++ o ∷ [];
      limited = ls ++ l ∷ [];
      many = omega (arith, length-append os (o ∷ []), begun.many);
      each_marked = omega (arith, length-append ls (l ∷ []), begun.each_marked);
      judged = run_more (items_in entries) r.start v u t os passed.item o begun.judged (ap (slice_get (items_in entries)) begun.many ∙ passed.its_item)
          (subst (λ (n : ℕ). HasJudgedOne (r.start + n) passed.item u t o) there passed.judged);
      part = subst (λ (cs : List Cell). IsPart r.written cs q) (sym grown)
          (part_more r.written (cells r.start records entries os ls) c p q begun.part put passed.within);
      marked = λ later.
          let more_marked : HasMarked r.form records (os ++ o ∷ later) (suc i) limit new (ls ++ l ∷ []) =
          marked_more r.form records (os ++ o ∷ later) i passed.rec o limit old new ls l passed.its_rec
          (ap (slice_get (os ++ o ∷ later)) there ∙ at_end os later o) passed.asked passed.unasked passed.passes (begun.marked (o ∷ later)) in
          subst (λ (xs : List Outcome). HasMarked r.form records xs (i + 1) limit new (ls ++ l ∷ [])) (sym (append_assoc os (o ∷ []) later))
          (subst (λ (n : ℕ). HasMarked r.form records (os ++ o ∷ later) n limit new (ls ++ l ∷ [])) next more_marked);
      rate = passed.rate ∙ begun.rate;
    }

-- at an index, so many records are counted in the part
pub pass_counted : (r : DrawnRound) (i : ℕ) (v u : HeldValue) (limit asked : Option Bucket) (p : Part) →
    HasBegunPass r i v u limit asked p → i ≤ length r.records.now → IsWithin p.counted i
pass_counted r i v u limit asked p begun inside =
    let os : List Outcome = begun.outcomes in
    let few : length os ≤ length r.records.now = omega (arith, begun.many, inside) in
    subst (IsWithin p.counted)
    (cells_front r.start r.records.now r.items.now os begun.limited few (omega (arith, few, r.same)) (begun.each_marked ∙ sym begun.many) ∙ begun.many)
    begun.part.within

-- all records
pub pass_last : OneMarking → (r : DrawnRound) (v u : HeldValue) (limit asked : Option Bucket) (p : Part) →
    HasBegunPass r (length r.records.now) v u limit asked p → HasPassed r v u limit asked p
pass_last law r v u limit asked p begun =
    let records : List Rec = r.records.now in
    let entries : List Entry = r.items.now in
    let os : List Outcome = begun.outcomes in
    let ls : List Bool = begun.limited in
    let long : length os ≡ length entries = begun.many ∙ sym r.same in
    let marked : HasMarked r.form records os (length os) limit asked ls =
    subst (λ (n : ℕ). HasMarked r.form records os n limit asked ls) (sym begun.many)
    (subst (λ (xs : List Outcome). HasMarked r.form records xs (length records) limit asked ls) (append-nil os) (begun.marked [])) in
    record {
      all = os;
      many = begun.many;
      judged = begun.judged;
      rendered = λ c taken earlier at course is.
          let match : Matches c r.start entries os ls =
          subst (λ (n : ℕ). Matches c n entries os ls) at
          (marks_match law c r.form taken records earlier entries os limit asked ls r.same long course is begun.rate marked) in
          record {
            packets = append-nil p.packets.items ∙ (begun.part.packets ∙ packets_are c r.written r.start records entries os ls r.same match);
            lines = append-nil p.lines.items ∙ (begun.part.lines ∙ lines_are c r.start records entries os ls r.same match);
            totals = begun.part.counts ∙ counts_are c no_totals r.start records entries os ls r.same match;
          };
      has_asked = λ c taken earlier at course.
          asked_more c r.form taken records earlier entries os limit asked ls r.same long course marked;
    }

-- ---- counts
-- what is counted behind some totals is counted behind none, and added
totals_plus : (c : Course) (a b : Totals) (number : ℕ) (es : List Entry) → totals_from c (plus a b) number es ≡ plus a (totals_from c b number es)
totals_plus c a b number [] = refl
totals_plus c a b number (e ∷ es) =
    let packets : ℕ = length (sent_at c number e.item) in
    let old : Totals = with_record (plus a b) (verdict_at c number e.item) packets in
    let new : Totals = plus a (with_record b (verdict_at c number e.item) packets) in
    let one : old ≡ new = same_totals old new (omega arith) (omega arith) (omega arith) (omega arith) (omega arith) refl in
    ap (λ (t : Totals). totals_from c t (number + 1) es) one ∙ totals_plus c a (with_record b (verdict_at c number e.item) packets) (number + 1) es

totals_added : (c : Course) (a : Totals) (number : ℕ) (es : List Entry) → plus a (totals_from c no_totals number es) ≡ totals_from c a number es
totals_added c a number es =
    let none : plus a no_totals ≡ a = same_totals (plus a no_totals) a (omega arith) (omega arith) (omega arith) (omega arith) (omega arith) refl in
    sym (totals_plus c a no_totals number es) ∙ ap (λ (t : Totals). totals_from c t number es) none

pub has_counted : (p : Part) (before now : Totals) →
    ((number more : ℕ) → IsWithin before number → IsWithin p.counted more → number + more ≤ 2 ^ 31 → now ≡ plus before p.counted) → HasCounted p before now
has_counted p before now sum =
    record {
      within = λ number more first next few.
          subst (λ (t : Totals). IsWithin t (number + more)) (sym (sum number more first next few)) (plus_within before p.counted number more first next);
      rendered = λ number more first next few c w records entries is.
          record {
            packets = is.packets;
            lines = is.lines;
            totals = sum number more first next few ∙ (ap (plus before) is.totals ∙ totals_added c before number entries);
          };
    }

-- ---- outcomes
pub passes_give : (r : DrawnRound) (v u : HeldValue) (limit asked : Option Bucket) (p : Part) (h : HasPassed r v u limit asked p)
    → AreOutcomes v.areas.plan (items_in r.items.now) r.start (r.start + length r.records.now) (consecutive r.start (length r.records.now) v.version) h.all
passes_give r v u limit asked p h =
    let count : ℕ = length r.records.now in
    let draws : map draw_of h.all ≡ consecutive r.start count v.version = h.judged.draws ∙ ap (λ (n : ℕ). consecutive r.start n v.version) h.many in
    let span : count ≡ r.start + count - r.start = omega arith in
    record {
      numbers = run_numbers r.start count v.version h.all draws ∙ ap (λ (n : ℕ). range_with_len r.start n) span;
      drawn = run_drawn r.start count v.version h.all draws;
      judged = h.judged.judged;
    }

pub pass_is_whole : (r : DrawnRound) (held v u : HeldValue) (free : View) (limit asked : Option Bucket) (p : Part) (h : HasPassed r v u limit asked p)
    → HasRead held v → DrawsNothing u.known free
    → HasJudgedWhole held.areas.plan (items_in r.items.now) r.start held.version held.known free h.all
pass_is_whole r held v u free limit asked p h first left =
    let many : length h.all ≡ length (items_in r.items.now) = h.many ∙ (sym r.same ∙ sym (length-map r.items.now (λ (e : Entry). e.item))) in
    run_whole (items_in r.items.now) r.start held v u free h.all first h.judged many left
