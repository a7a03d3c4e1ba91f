-- The course of all records of a run by the points whose lines are whole, and that of the first records by all points: what these
-- records write is a front of what all of them write.
use Rattle.lwaftr_engine.proofs.Words.{subst, ◌≡◌, ℕ, ◌+◌, ◌<◌, false, List, ◌++◌, length, flat_map, Option, refl, sym, ◌∙◌, ap, arith, append_assoc, IfSome}
use Rattle.lwaftr_engine.proofs.Words.{IsRate, ended_text, BindingTable, file_head, Form, Rec, Setup, entries_of, unfinished_of, Entry, no_rows, AreJoined}
use Rattle.lwaftr_engine.proofs.Words.{LimitsAreSome, IsLimited, Course, lines_from, output_of, packets_from, verdicts_of, in_force, RunLaws, IsFrontOf}
use Rattle.lwaftr_engine.proofs.Words.{IsUnder, []}
use Rattle.lwaftr_engine.proofs.Alike.{AreAlike, entries_are, entries_behind, entries_count, limited_same, lines_same, packets_same}
use Rattle.lwaftr_engine.proofs.Marked.{limits_exist}
use Rattle.lwaftr_engine.proofs.Parts.{front_in}

pub record HasUnder (tables : ℕ → BindingTable) (points : List ℕ) (errors : Option ℕ) (form : Form) (rs : List Rec) : Type 0 where
  pub course : Course
  pub under : IsUnder tables points errors form rs course

-- the course without its limit
abbrev pub bare : (ℕ → BindingTable) → List ℕ → Course
bare tables points = record { tables = tables; version = in_force points; limited = λ _. false; loaded = length points }

-- there is a course for all records and points
pub some_course : LimitsAreSome → (tables : ℕ → BindingTable) (points : List ℕ) (errors : Option ℕ) (form : Form) (rs : List Rec) →
    IfSome errors IsRate → HasUnder tables points errors form rs
some_course law tables points errors form rs rate =
    let es = entries_of form rs in
    let b = bare tables points in
    let asked = limits_exist errors rate form rs es b in
    let some = law form rs es b asked.limit (entries_count form no_rows 0 rs) asked.asked in
    let R : Option ℕ → Type 0 = λ r. IsLimited r form rs (entries_of form rs) some.course in
    record {
      course = some.course;
      under = record {
        tables_are = some.same.tables;
        in_force_are = some.same.version;
        loaded = some.same.loaded;
        limited = subst R asked.rate_is some.limited;
      };
    }

abbrev pub with_points : Course → List ℕ → Course
with_points c points = record { tables = c.tables; version = in_force points; limited = c.limited; loaded = length points }

-- the course of all records by some points, which say of the first records what all points say
pub record ShownCourse (x : Setup) (tables : ℕ → BindingTable) (points : List ℕ) (taken rest : List Rec) : Type 0 where
  pub shown : List ℕ
  pub same : (number : ℕ) → number < length taken → in_force shown number ≡ in_force points number
  pub course : Course
  pub under : IsUnder tables shown x.run.errors x.form (taken ++ rest) course

module _ (laws : RunLaws) {x : Setup} {tables : ℕ → BindingTable} {points : List ℕ} {taken rest : List Rec} (s : ShownCourse x tables points taken rest) where
  abbrev c : Course
  c = s.course

  -- the course of the first records by all points
  abbrev d : Course
  d = with_points s.course points

  abbrev old : List Entry
  old = entries_of x.form taken

  abbrev more : List Entry
  more = entries_behind x.form taken rest

  alike : AreAlike s.course (with_points s.course points) (length taken)
  alike = record {
    tables = refl;
    version = λ number inside. sym (ap (λ (f : ℕ → ℕ). f number) s.under.in_force_are ∙ s.same number inside);
    limited = λ number inside. refl;
  }

  count : length (entries_of x.form taken) ≡ length taken
  count = entries_count x.form no_rows 0 taken

  pub limited_first : IsLimited x.run.errors x.form taken old d
  limited_first =
      limited_same c d (length taken) alike x.run.errors x.form taken old (omega arith) (omega (arith, count))
      (laws.begins x.run.errors x.form taken rest old more c count (rw (← (entries_are x.form taken rest)) s.under.limited))

  joined : AreJoined c x.written 0 taken rest old more
  joined = laws.joins c x.written 0 taken rest old more count

  packets_first : packets_from c x.written 0 (taken ++ rest) (entries_of x.form (taken ++ rest))
      ≡ packets_from d x.written 0 taken old ++ packets_from c x.written (0 + length taken) rest more
  packets_first =
      cc (entries_are x.form taken rest, joined.packets, packets_same c d (length taken) alike x.written 0 taken old (omega arith))

  old_lines_same : lines_from d 0 old ≡ lines_from c 0 old
  old_lines_same = lines_same c d (length taken) alike 0 old (omega (arith, count))

  lines_first : lines_from c 0 (entries_of x.form (taken ++ rest)) ≡ lines_from d 0 old ++ lines_from c (0 + length taken) more
  lines_first = cc (entries_are x.form taken rest, joined.lines, old_lines_same)

  pub output_front : {part : List ℕ} → IsFrontOf (packets_from d x.written 0 taken old) part →
      IsFrontOf (output_of c x.written x.form (taken ++ rest)) (file_head x.written ++ part)
  output_front {part} front =
      let head = file_head x.written in
      let P = packets_from d x.written 0 taken old in
      let M = packets_from c x.written (0 + length taken) rest more in
      front_in (output_of c x.written x.form (taken ++ rest)) head P M part
      (ap (λ (l : List ℕ). head ++ l) packets_first ∙ sym (append_assoc head P M)) front

  pub verdicts_front : {part : List ℕ} → IsFrontOf (lines_from d 0 old) part → IsFrontOf (verdicts_of c x.form (taken ++ rest)) part
  verdicts_front {part} front =
      let L = lines_from d 0 old in
      let M = lines_from c (0 + length taken) more in
      let U = flat_map (ended_text false) (unfinished_of x.form (taken ++ rest)) in
      front_in (verdicts_of c x.form (taken ++ rest)) [] L (M ++ U) part (ap (λ (l : List ℕ). l ++ U) lines_first ∙ append_assoc L M U) front

  -- the first records write the same by both
  pub verdicts_same : verdicts_of d x.form taken ≡ verdicts_of c x.form taken
  verdicts_same = ap (λ (l : List ℕ). l ++ flat_map (ended_text false) (unfinished_of x.form taken)) old_lines_same
