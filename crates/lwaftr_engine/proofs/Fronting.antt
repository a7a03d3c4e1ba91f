-- Outputs that hold fronts of what is due.
use Rattle.lwaftr_engine.proofs.Words.{◌≡◌, ◌==◌, ℕ, zero, suc, ◌+◌, ◌-◌, ◌<◌, ◌≤◌, nat_le, nat_lt, cond, Bool, true, false, List, [], ◌∷◌, ◌++◌, count_by}
use Rattle.lwaftr_engine.proofs.Words.{get_or, length, take, drop, flat_map, Option, ◌⊎◌, inl, inr, refl, sym, ◌∙◌, ap, arith, le-ltb, append-nil}
use Rattle.lwaftr_engine.proofs.Words.{length-append, subst, IfSome, option_map, take-nil, cases_lt, eq-eqb, count_by-le-length, sum_by-cons, Contents}
use Rattle.lwaftr_engine.proofs.Words.{content, Fault, IsRate, ended_text, initial_text, summary_text, Totals, AreDrawn, HistoryValue, BindingTable}
use Rattle.lwaftr_engine.proofs.Words.{file_head, Form, Rec, entries_of, unfinished_of, HasBegun, IsBrokenFrom, AreSlotsOf, IsHalfFinished, last_line}
use Rattle.lwaftr_engine.proofs.Words.{last_lines, last_steps, last_versions, HoldsFront, IsAtSummary, IsFront, IsFrontOf, IsUnder, Stop, is_table}
use Rattle.lwaftr_engine.proofs.Words.{shown_points, stop_by, whole_lines, HasWritten, Setup, Spot, Suits, loads_of, RunLaws, IsPlanOf, Did, DidFront, Course}
use Rattle.lwaftr_engine.proofs.Words.{lines_from, packets_from, verdicts_of, NoneIsDue, load_lines, named, IsPlan, Tables, AreAllPoints, AreInWindows}
use Rattle.lwaftr_engine.proofs.Words.{in_force, Window, AreWritten, Readable, State, World, is_failure}
use Rattle.lwaftr_engine.specs.Finishing.{TookFront}
use Rattle.lwaftr_engine.specs.Fronts.{NothingPut}
use Rattle.lwaftr_engine.proofs.Begun.{TakenUnder, begun_by, lines_in_front}
use Rattle.lwaftr_engine.proofs.Closing.{course_with, is_written, suits_bare, totals_are, ClosedRun, few_points, its_planned, points_placed}
use Rattle.lwaftr_engine.proofs.Courses.{ShownCourse, limited_first, output_front, some_course, verdicts_front, verdicts_same, with_points}
use Rattle.lwaftr_engine.proofs.Extending.{in_force_before, points_extend}
use Rattle.lwaftr_engine.proofs.Going.{wrote_same}
use Rattle.lwaftr_engine.proofs.Parts.{front_part, all_of, front_at_end, front_in}
use Rattle.lwaftr_engine.proofs.Telling.{IsRising, in_force_first, lines_fit, one, printed_few}
use Rattle.lwaftr_engine.proofs.Writing.{IsOpening, WroteFront, front_of_all, in_others, in_tables, wrote_front}

-- a front of the first list is one of it and what follows
widen : (due rest old new : List ℕ) (b : Bool) → HoldsFront b due old new → HoldsFront b (due ++ rest) old new
widen due rest old new true (count, is) = (length (take count due), is ∙ front_part (due ++ rest) due rest count refl)
widen due rest old new false same = same

no_points : (windows : List Window) → AreInWindows windows [] 0
no_points windows = record {
  rising = λ k inside. absurd (omega (arith, inside));
  reached = λ k inside. absurd (omega (arith, inside));
  inside = λ k inside. absurd (omega (arith, inside));
}

-- points for all tables whose windows open by the last of these records
pub first_points : {tables : ℕ → BindingTable} {windows : List Window} {plan : Tables} → IsPlan plan → IsPlanOf tables windows plan → (rs : List Rec) →
    (points : List ℕ) × AreAllPoints windows points (length rs)
first_points {plan = plan} planned of rs =
    let few : 0 < length plan.tables = omega (arith, planned.paired) in
    let more = points_extend plan planned 0 (length rs) (omega arith) [] few (no_points plan.windows) (inl refl) in
    (more.later, rw (← of.same_windows) more.all)

-- the outputs are being made
pub at_opening : RunLaws → (x : Setup) {tables : ℕ → BindingTable} {windows : List Window} → IfSome x.run.errors IsRate → (rs : List Rec)
    (points : (points : List ℕ) × AreAllPoints windows points (length rs)) {a d : Contents} (stop : Stop) →
    NothingPut stop → (half : IsOpening x.run x.written a d) →
    IsFront x.run tables windows x.slots x.form x.written rs half.made a d stop
at_opening laws x {tables} rate rs (points, placed) {a} {d} stop nothing half =
    let told = shown_points (nat_lt 2 half.made) x.run x.slots points (content d x.run.versions) in
    let whole = some_course laws.limits tables points x.run.errors x.form rs rate in
    let shown = some_course laws.limits tables told x.run.errors x.form rs rate in
    let packets = packets_from shown.course x.written 0 rs (entries_of x.form rs) in
    record {
      points = points;
      placed = placed;
      course = whole.course;
      under_all = whole.under;
      shown = shown.course;
      under_told = shown.under;
      output = widen (file_head x.written) packets (content a x.run.output) (content d x.run.output) (nat_lt 0 half.made) half.output;
      verdicts = widen [] (verdicts_of shown.course x.form rs) (content a x.run.verdicts) (content d x.run.verdicts) (nat_lt 1 half.made) half.verdicts;
      versions = widen (initial_text x.run.table) (load_lines points (loads_of x)) (content a x.run.versions) (content d x.run.versions)
          (nat_lt 2 half.made) half.versions;
      others = half.others;
      sink = inl nothing;
    }

counted : (draws : List (ℕ × ℕ)) (k : ℕ) (d : ℕ × ℕ) → k < length draws → 1 ≤ count_by (λ (e : ℕ × ℕ). e.0 == (get_or draws k d).0) draws
counted [] k d inside = absurd (omega (arith, inside))
counted (x ∷ draws) zero d inside =
    omega (arith, ap one (eq-eqb x.0 x.0 refl), sum_by-cons (λ (e : ℕ × ℕ). cond (e.0 == x.0) 1 0) x draws)
counted (x ∷ draws) (suc k) d inside =
    omega (arith, counted draws k d (omega (arith, inside)), sum_by-cons (λ (e : ℕ × ℕ). cond (e.0 == (get_or draws k d).0) 1 0) x draws)

-- the numbers that were drawn are the first ones
drawn_below : (draws : List (ℕ × ℕ)) (h : HistoryValue) → AreDrawn h draws → (k : ℕ) (d : ℕ × ℕ) → k < length draws → (get_or draws k d).0 < length draws
drawn_below draws h drawn k d inside = elim (cases_lt (get_or draws k d).0 (length draws)) [
  | inl less ↦ less
  | inr more ↦
      let none = ap one (le-ltb (get_or draws k d).0 h.records (omega (arith, more, drawn.all))) in
      absurd (omega (arith, counted draws k d inside, drawn.each_once (get_or draws k d).0, none))
]

-- Under every list of points that says the same of the first records, a front of these lines of them, by all points, is a front of
-- what is due.
abbrev AreFronts : Setup → (ℕ → BindingTable) → List ℕ → List Rec → List Rec → (Course → List ℕ) → Type 0
AreFronts x tables points taken rest lines = (s : ShownCourse x tables points taken rest) (part : List ℕ) →
    IsFrontOf (lines (with_points s.course points)) part → IsFrontOf (verdicts_of s.course x.form (taken ++ rest)) part

-- the last lines are written to a front
finish_begun : {x : Setup} {c : Course} {s : State} {b d e : Contents} {rs : List Rec} → HasWritten x c b d s rs →
    DidFront x.run (last_steps x s.progress s.points rs) d e →
    HasBegun x c s.points (verdicts_of c x.form rs) b e rs
finish_begun {x} {c} {s} {b} {d} {e} {rs} h front =
    rw (← (append-nil s.points)) (by_front (wrote_front x.run news [] ends d e front)) where
      t : TakenUnder
      t = record { x = x; c = c; opened = b; before = d; s = s; taken = rs; h = h }

      news : List ℕ
      news = last_versions x s.progress s.points

      ends : List ℕ
      ends = last_lines s.progress rs

      due : List ℕ
      due = verdicts_of c x.form rs

      versions : (part : List ℕ) → IsFrontOf news part →
          IsFrontOf (load_lines (s.points ++ []) (loads_of x)) (load_lines (s.points ++ []) (take s.progress.printed (loads_of x)) ++ part)
      versions part front = rw (append-nil s.points) (lines_in_front s.points s.progress.printed (loads_of x) front)

      lines : (part : List ℕ) → IsFrontOf ends part → IsFrontOf due (lines_from c 0 (entries_of x.form rs) ++ part)
      lines part front =
          let L = lines_from c 0 (entries_of x.form rs) in
          front_at_end due L ends part (ap (λ (f : Form). L ++ flat_map (ended_text false) (unfinished_of f rs)) h.stage_form) front

      by_front : WroteFront x.run news [] ends d e → HasBegun x c (s.points ++ []) due b e rs
      by_front (in_tables count w) = begun_by t [] due (take count news) [] (versions (take count news) (count, refl)) (lines [] (0, refl)) w
      by_front (in_others p l w) =
          begun_by t [] due news (take l ends) (versions news (all_of news)) (lines (take l ends) (l, refl)) (wrote_same (refl, take-nil p, refl) w)

-- what is put last: nothing, or all outputs are whole, and a front of the summary
abbrev EndsWith : ClosedRun → List ℕ → List Rec → Contents → Stop → Course → Type 0
EndsWith r points rs e stop c = NothingPut stop ⊎ ((stop.after.writing.spoiled ≡ stop.before.writing.spoiled)
    × IsAtSummary r.x.run r.x.slots c points r.x.form r.x.written rs e stop.before.said stop.after.said)

-- all lines are written, and a part of the summary is put
at_summary : (r : ClosedRun) {d e : Contents} {said now : Option (List ℕ)} {rs : List Rec} → AreAllPoints r.windows r.s.points (length rs) →
    AreWritten r.x r.opened d r.s rs → (c : Course) → IsUnder r.tables r.s.points r.x.run.errors r.x.form rs c →
    Did r.x.run (last_steps r.x r.s.progress r.s.points rs) d e → TookFront (last_line r.s.progress r.s.points) said now →
    IsAtSummary r.x.run r.x.slots c r.s.points r.x.form r.x.written rs e said now
at_summary r {d} {said = said} {rs = rs} placed are c under did took =
    let has = course_with r placed are c under in
    let whole = is_written r {said = said} has (record { did = did; took = refl }) in
    record {
      output = whole.output;
      verdicts = whole.verdicts;
      versions = whole.versions;
      count = took.0;
      took = took.1 ∙ ap (λ (t : Totals). option_map (λ (out : List ℕ). out ++ take took.0 (summary_text t)) said) (totals_are r has);
    }

module _ (r : ClosedRun) (slots_of : AreSlotsOf r.x.run r.windows r.x.slots) where
  -- a course whose points say of the numbers drawn what those of the desk say suits
  suits_if : (c : Course) → c.tables ≡ r.tables → ((number : ℕ) → number < length r.s.draws → c.version number ≡ in_force r.s.points number) →
      Suits r.s.plan r.s.draws c
  suits_if c tables_are version_are =
      let suits = suits_bare r.of r.closed in
      record {
        tables = rw tables_are suits.tables;
        versions = λ k d inside.
            version_are (get_or r.s.draws k d).0 (drawn_below r.s.draws r.h r.closed.drawn k d inside) ∙ suits.versions k d inside;
      }

  -- what the first loads' lines say, by how much of VERSIONS there is
  told_same : (points printed : List ℕ) (loads : ℕ) (text : List ℕ) → IsRising points → length printed ≤ 0 + count_by is_table r.x.slots →
      NoneIsDue printed (drop loads r.x.slots) → length (load_lines points (take loads (loads_of r.x))) + length (initial_text r.x.run.table) ≤ length text →
      (number : ℕ) → in_force points number ≤ length printed → in_force (shown_points true r.x.run r.x.slots points text) number ≡ in_force points number
  told_same points printed loads text rising short none held number few =
      let slots = r.x.slots in
      let size = length text - length (initial_text r.x.run.table) in
      let first = printed_few 0 slots loads printed slots_of.numbered none short in
      let enough : length (load_lines points (take loads (loads_of r.x))) ≤ length text - length (initial_text r.x.run.table) = omega (arith, held) in
      let more = lines_fit points size r.x.run.loads slots loads slots_of.loads_are enough in
      let count = count_by is_table (take (whole_lines points size (named r.x.run.loads slots)) slots) in
      in_force_first points count number rising (omega (arith, few, first, more))

  -- fronts of what these records write are written
  at_begun : (points : List ℕ) (taken rest : List Rec) → AreAllPoints r.windows points (length (taken ++ rest)) → (d : Contents) (lines : Course → List ℕ) →
      AreFronts r.x r.tables points taken rest lines →
      ((c : Course) → c.tables ≡ r.tables → c.version ≡ in_force points → HasBegun r.x c points (lines c) r.opened d taken) → (stop : Stop) →
      ((c : Course) → IsUnder r.tables points r.x.run.errors r.x.form (taken ++ rest) c → EndsWith r points (taken ++ rest) d stop c) →
      IsFront r.x.run r.tables r.windows r.x.slots r.x.form r.x.written (taken ++ rest) 3 r.old d stop
  at_begun points taken rest all d lines fronts begun stop sink =
      -- some course of the records that were taken, which tells how much of VERSIONS there is
      let run = r.x.run in
      let form = r.x.form in
      let head = initial_text run.table in
      let text = content d run.versions in
      let seen = shown_points true run r.x.slots points (content d run.versions) in
      let some = some_course r.laws.limits r.tables points run.errors form taken r.rate in
      let it0 = begun some.course some.under.tables_are some.under.in_force_are in
      let w0 = it0.wrote some.under.limited in
      let told = load_lines points (take it0.loads (loads_of r.x)) in
      let held : length told + length head ≤ length (content d run.versions) =
      omega (
        arith,
        ap (λ (l : List ℕ). length l) w0.wrote.versions_is,
        length-append (content r.opened run.versions) (told ++ w0.more),
        length-append told w0.more,
        ap (λ (l : List ℕ). length l) r.opening.versions,
      ) in
      let short : length it0.printed ≤ 0 + count_by is_table r.x.slots =
      omega (
        arith,
        all.each,
        count_by-le-length (λ (w : Window). nat_le w.earliest (length (taken ++ rest))) r.windows,
        slots_of.windows_are,
        ap (λ (l : List ℕ). length l) it0.all,
        length-append it0.printed it0.later,
      ) in
      let same : (number : ℕ) → number < length taken → in_force seen number ≡ in_force points number = λ number inside.
      let few : in_force points number ≤ length it0.printed =
      omega (arith, it0.spoken number inside, ap (λ (f : ℕ → ℕ). f number) some.under.in_force_are) in
      told_same points it0.printed it0.loads text all.placed.rising short it0.none_due held number few in
      let whole = some_course r.laws.limits r.tables points run.errors form (taken ++ rest) r.rate in
      let by_shown = some_course r.laws.limits r.tables seen run.errors form (taken ++ rest) r.rate in
      let s : ShownCourse r.x r.tables points taken rest = record { shown = seen; same = same; course = by_shown.course; under = by_shown.under } in
      let it = begun (with_points s.course points) s.under.tables_are refl in
      let w = it.wrote (limited_first r.laws s) in
      let versions = load_lines points (loads_of r.x) in
      record {
        points = points;
        placed = all;
        course = whole.course;
        under_all = whole.under;
        shown = s.course;
        under_told = s.under;
        output =
            let front = output_front r.laws s w.in_packets in
            (front.0, w.wrote.output ∙ (ap (λ (l : List ℕ). l ++ w.packets_part) r.opening.output ∙ front.1));
        verdicts =
            let front = fronts s w.lines_part w.in_lines in
            (front.0, w.wrote.verdicts ∙ (ap (λ (l : List ℕ). l ++ w.lines_part) r.opening.verdicts ∙ front.1));
        versions =
            let part = load_lines points (take it.loads (loads_of r.x)) ++ w.more in
            let front = front_in (head ++ versions) head versions [] part (sym (append-nil (head ++ versions))) w.in_tables in
            (front.0, w.wrote.versions_is ∙ (ap (λ (l : List ℕ). l ++ part) r.opening.versions ∙ front.1));
        others = λ name u v z. w.wrote.others name u v z ∙ r.opening.others name u v z;
        sink = sink whole.course whole.under;
      }

  -- rounds were ended by a fault
  pub at_rounds : (stop : Stop) → NothingPut stop →
      {first : Spot} {a b : Readable} {bytes : List ℕ} {d : Contents} (broken : IsBrokenFrom r.x r.s first a b bytes r.opened d) →
      IsFront r.x.run r.tables r.windows r.x.slots r.x.form r.x.written broken.records 3 r.old d stop
  at_rounds stop nothing {d = d} broken =
      let cut = broken.part in
      let drawn = length r.s.draws in
      let total = length broken.records in
      let more = points_extend r.s.plan (its_planned r.closed) drawn total broken.drawn r.s.points (few_points r.closed) (points_placed r.closed)
      broken.up_to_date in
      let points = r.s.points ++ more.later in
      let A : List Window → Type 0 = λ w. AreAllPoints w (r.s.points ++ more.later) (length broken.records) in
      let L : List Rec → Type 0 = λ rs. AreAllPoints r.windows (r.s.points ++ more.later) (length rs) in
      let all = subst L cut.all (subst A r.of.same_windows more.all) in
      rw cut.all (at_begun points cut.taken cut.rest all d (λ c. lines_from c 0 (entries_of r.x.form cut.taken)) (λ s part front. verdicts_front r.laws s front)
      (λ c tables_are version_are. cut.begun more.later c (suits_if c tables_are (λ number low.
      ap (λ (f : ℕ → ℕ). f number) version_are ∙ in_force_before r.s.points more.later drawn number more.behind low)))
      stop (λ c under. inl nothing))

  abbrev Half : Fault → World → World → List Rec → Contents → Contents → Type 0
  Half why before after rs d e =
      IsHalfFinished r.x r.s.progress r.s.points rs (is_failure why) before.writing.spoiled after.writing.spoiled before.said after.said d e

  -- the records have ended, and what is left is written in part
  pub at_finish : (why : Fault) (before after : World) {d e : Contents} {rs : List Rec} → AreAllPoints r.windows r.s.points (length rs) →
      AreWritten r.x r.opened d r.s rs → Half why before after rs d e →
      IsFront r.x.run r.tables r.windows r.x.slots r.x.form r.x.written rs 3 r.old e (stop_by why before after)
  at_finish why before after {d} {e} {rs} placed are half =
      rw (← (append-nil rs)) (at_begun r.s.points rs [] (rw (append-nil rs) placed) e (λ c. verdicts_of c r.x.form rs)
      (λ s part front.
      let every = sym (append-nil rs) in
      let same = verdicts_same r.laws s ∙ ap (λ (l : List Rec). verdicts_of s.course r.x.form l) every in
      (front.0, front.1 ∙ ap (λ (l : List ℕ). take front.0 l) same))
      (λ c tables_are version_are. finish_begun (are c (suits_if c tables_are (λ number low. ap (λ (f : ℕ → ℕ). f number) version_are))) (front half))
      (stop_by why before after) (sink half)) where
        front : Half why before after rs d e → DidFront r.x.run (last_steps r.x r.s.progress r.s.points rs) d e
        front (inl (rises, (did, took))) = did
        front (inr (same, (did, took))) = front_of_all r.x.run (last_steps r.x r.s.progress r.s.points rs) d e did

        sink : Half why before after rs d e → (c : Course) → IsUnder r.tables r.s.points r.x.run.errors r.x.form (rs ++ []) c →
            EndsWith r r.s.points (rs ++ []) e (stop_by why before after) c
        sink (inl (rises, (did, took))) c under = inl (rises, took)
        sink (inr (same, (did, took))) c under = inr (same, rw (append-nil rs) (at_summary r placed are c (rw (← (append-nil rs)) under) did took))
