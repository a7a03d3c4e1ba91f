-- A round: what was read, judged and written, put together.
use Rattle.run_turns.proofs.Words.{◌≡◌, ℕ, ◌+◌, ◌-◌, ◌<◌, ◌≤◌, List, ◌++◌, length, get_or, take, Some, inl, inr, sym, ◌∙◌, ap, arith, append_assoc}
use Rattle.run_turns.proofs.Words.{length-append, slice_get, cases_lt, slice_get-get_or, Contents, content, RunJob, Rec, Entry, entries_of, items_in}
use Rattle.run_turns.proofs.Words.{Item, HasWritten, IsLimitedRun, Setup, Wrote, loads_of, RoundLaws, all_asking, HasJudged, no_totals}
use Rattle.run_turns.proofs.Words.{totals_from, AreJoined, HasAsked, IsLimited, lines_from, packets_from, IsCourseOf, IsRendered, lines_in, packets_in}
use Rattle.run_turns.proofs.Words.{load_lines, Outcome, no_outcome, Part, append-nil, [], ◌∷◌, asks, cond, map-append, sum_by-append, Course, State, Suits}
use Rattle.run_turns.proofs.Elements.{all_at}

-- behind what was written, more is
pub wrote_more : {run : RunJob} {a b d : Contents} {v p l more_v more_p more_l : List ℕ} → Wrote run v p l a b → Wrote run more_v more_p more_l b d →
    Wrote run (v ++ more_v) (p ++ more_p) (l ++ more_l) a d
wrote_more {run} {a} {v} {p} {l} {more_v} {more_p} {more_l} first second = record {
  versions_is = cc (append_assoc (content a run.versions) v more_v);
  output = cc (append_assoc (content a run.output) p more_p);
  verdicts = cc (append_assoc (content a run.verdicts) l more_l);
  others = λ name u v w. second.others name u v w ∙ first.others name u v w;
}

-- the same lists, written otherwise
pub wrote_same : {run : RunJob} {a b : Contents} {v w p q l k : List ℕ} → (v ≡ w) × (p ≡ q) × (l ≡ k) → Wrote run v p l a b → Wrote run w q k a b
wrote_same same wrote = rw (← same.0, ← same.1, ← same.2) wrote

asking_append : (es more : List Entry) → all_asking (items_in (es ++ more)) ≡ all_asking (items_in es) + all_asking (items_in more)
asking_append es more =
    ap (λ (l : List Item). all_asking l) (map-append (λ (e : Entry). e.item) es more)
    ∙ sum_by-append (λ (i : Item). cond (asks (Some i)) 1 0) (items_in es) (items_in more)

-- a round that was judged behind the records that were taken and written, under a course that suits
pub record RoundUnder : Type 0 where
  pub laws : RoundLaws
  pub x : Setup
  pub p : State
  pub q : State
  pub records : List Rec
  pub versions : List ℕ
  pub part : Part
  pub judged : HasJudged x p q records versions part
  pub c : Course
  pub suits : Suits p.plan q.draws c
  pub opened : Contents
  pub before : Contents
  pub taken : List Rec
  pub h : HasWritten x c opened before p taken

module _ (r : RoundUnder) where
  abbrev es : List Entry
  es = r.judged.entries

  abbrev old : List Entry
  old = entries_of r.x.form r.taken

  -- the records with those of the round, and their entries
  abbrev pub every : List Rec
  every = r.taken ++ r.records

  abbrev pub every_entry : List Entry
  every_entry = entries_of r.x.form (r.taken ++ r.records)

  more : entries_of r.x.form (r.taken ++ r.records) ≡ entries_of r.x.form r.taken ++ r.judged.entries
  more = rw (← r.h.stage_form) (r.judged.staged.entries r.taken r.h.stands)

  course : IsCourseOf r.c r.x.form r.taken r.records old es r.judged.outcomes r.p.progress.limit
  course = record { counted = r.h.entries; outcomes_of = rw (← r.h.number) (r.judged.have r.c r.suits); asked = r.h.asked }

  asked_more : HasAsked r.x.form every every_entry r.c r.q.progress.limit
  asked_more = rw more (r.judged.rendered.asked r.c r.taken old (sym r.h.number) course)

  limited_behind : IsLimitedRun r.x r.c every → IsLimited r.x.run.errors r.x.form every (entries_of r.x.form r.taken ++ r.judged.entries) r.c
  limited_behind limited = rw (← more) limited

  pub limited_before : IsLimitedRun r.x r.c every → IsLimitedRun r.x r.c r.taken
  limited_before limited = r.laws.begins r.x.run.errors r.x.form r.taken r.records old es r.c r.h.entries (limited_behind limited)

  rendered : IsLimitedRun r.x r.c every →
      IsRendered r.c r.x.written r.p.progress.number r.records es r.p.progress.totals r.q.progress.totals (r.part ∷ [])
  rendered limited = r.judged.rendered.rendered r.c r.taken old (sym r.h.number) course (rw r.judged.rate (limited_behind limited))

  joined : AreJoined r.c r.x.written 0 r.taken r.records old es
  joined = r.laws.joins r.c r.x.written 0 r.taken r.records old es r.h.entries

  start : 0 + length r.taken ≡ r.p.progress.number
  start = omega (arith, r.h.number)

  abbrev pub old_packets : List ℕ
  old_packets = packets_from r.c r.x.written 0 r.taken (entries_of r.x.form r.taken)

  abbrev pub old_lines : List ℕ
  old_lines = lines_from r.c 0 (entries_of r.x.form r.taken)

  pub packets_are : IsLimitedRun r.x r.c every → old_packets ++ packets_in (r.part ∷ []) ≡ packets_from r.c r.x.written 0 every every_entry
  packets_are limited = cc ((rendered limited).packets, joined.packets, more, start)

  pub lines_are : IsLimitedRun r.x r.c every → old_lines ++ lines_in (r.part ∷ []) ≡ lines_from r.c 0 every_entry
  lines_are limited = cc ((rendered limited).lines, joined.lines, more, start)

  -- the points of the round, and those that come later
  pub points_are : (later : List ℕ) → r.p.points ++ (r.judged.news ++ later) ≡ r.q.points ++ later
  points_are later = sym (append_assoc r.p.points r.judged.news later) ∙ ap (λ (l : List ℕ). l ++ later) (sym r.judged.new_lines.points_are)

  pub versions_are : (later : List ℕ) →
      load_lines (r.p.points ++ (r.judged.news ++ later)) (take r.p.progress.printed (loads_of r.x)) ++ r.versions
      ≡ load_lines (r.q.points ++ later) (take r.q.progress.printed (loads_of r.x))
  versions_are later =
      let loads = loads_of r.x in
      let first = r.p.progress.printed in
      ap (λ (l : List ℕ). load_lines l (take first loads) ++ r.versions) (points_are later)
      ∙ (ap (λ (l : List ℕ). load_lines (r.q.points ++ later) (take first loads) ++ l) (r.judged.new_lines.tells.lines_are later)
      ∙ r.laws.lines (r.q.points ++ later) loads first r.q.progress.printed r.judged.new_lines.tells.forward)

  totals_more : IsLimitedRun r.x r.c every → r.q.progress.totals ≡ totals_from r.c no_totals 0 every_entry
  totals_more limited = cc ((rendered limited).totals, r.h.totals (limited_before limited), joined.totals no_totals, more, start)

  entries_count : length every_entry ≡ length every
  entries_count =
      ap (λ (l : List Entry). length l) more
      ∙ omega (arith, length-append (entries_of r.x.form r.taken) r.judged.entries, length-append r.taken r.records, r.h.entries, r.judged.staged.count)

  pub spoken_more : (number : ℕ) → number < length (r.taken ++ r.records) → r.c.version number ≤ length r.q.points
  spoken_more number inside = elim (cases_lt number (length r.taken)) [
    | inl before ↦
        omega (
          arith,
          r.h.spoken number before,
          length-append r.h.told r.h.since,
          ap (λ (l : List ℕ). length l) r.h.points,
          length-append r.p.points r.judged.news,
          ap (λ (l : List ℕ). length l) r.judged.new_lines.points_are,
        )
    | inr behind ↦
        spoken_new number (number - length r.taken) (omega (arith, behind, r.h.number))
        (omega (arith, behind, inside, length-append r.taken r.records, r.judged.staged.count, r.judged.outcomes_count))
  ] where
    spoken_new : (number k : ℕ) → number ≡ r.p.progress.number + k → k < length r.judged.outcomes → r.c.version number ≤ length r.q.points
    spoken_new number k is within =
        let o : Outcome = get_or r.judged.outcomes k no_outcome in
        let at : slice_get r.judged.outcomes k ≡ Some (get_or r.judged.outcomes k no_outcome) = slice_get-get_or r.judged.outcomes k no_outcome within in
        let few : (get_or r.judged.outcomes k no_outcome).version ≤ length r.q.points =
        all_at (λ (y : Outcome). y.version ≤ length r.q.points) r.judged.outcomes k o r.judged.versions_known at in
        let have = r.judged.have r.c r.suits in
        let version : (get_or r.judged.outcomes k no_outcome).version ≡ r.c.version (get_or r.judged.outcomes k no_outcome).number = have.versions k o at in
        let same : (get_or r.judged.outcomes k no_outcome).number ≡ number = have.numbers k o at ∙ sym is in
        rw (← (version ∙ ap (λ (n : ℕ). r.c.version n) same)) few

  reads_more : all_asking (items_in every_entry) ≤ r.q.reads
  reads_more =
      let same : all_asking (items_in (entries_of r.x.form (r.taken ++ r.records)))
      ≡ all_asking (items_in (entries_of r.x.form r.taken)) + all_asking (items_in r.judged.entries) =
      ap (λ (l : List Entry). all_asking (items_in l)) more ∙ asking_append old es in
      omega (arith, same, r.h.reads, r.judged.reads)

  -- a round more is written
  pub written_more : (d : Contents) → Wrote r.x.run (r.versions) (packets_in (r.part ∷ [])) (lines_in (r.part ∷ [])) r.before d →
      HasWritten r.x r.c r.opened d r.q (r.taken ++ r.records)
  written_more d wrote = record {
    stands = r.judged.staged.stands r.taken r.h.stands;
    stage_form = r.judged.staged.form ∙ r.h.stage_form;
    number = omega (arith, r.judged.numbered, r.h.number, length-append r.taken r.records);
    entries = entries_count;
    asked = asked_more;
    totals = totals_more;
    files = λ later limited.
        wrote_same (versions_are later, packets_are limited, lines_are limited)
        (wrote_more (r.h.files (r.judged.news ++ later) (limited_before limited)) wrote);
    told = r.q.points;
    since = [];
    points = sym (append-nil r.q.points);
    none_due = r.judged.new_lines.tells.none_due;
    spoken = spoken_more;
    reads = reads_more;
  }
