-- A run whose areas are closed: which course it had, and what its files are by that.
use Rattle.lwaftr_engine.proofs.Words.{AreAllPoints, AreInWindows, AreWritten, BindingTable, Contents, Course, Finishes, HasWritten, HistoryValue, IfSome}
use Rattle.lwaftr_engine.proofs.Words.{IsClosed, IsCourse, IsFinished, IsFirst, IsHistoryOf, IsLawful, IsLimitedRun, IsPlan, IsPlanOf, IsRate, IsRun}
use Rattle.lwaftr_engine.proofs.Words.{IsSameBut, IsUnder, IsWritten, NoneIsDue, Option, Rec, RunLaws, Setup, Slot, Some, State, Suits, Tables, Window, Wrote}
use Rattle.lwaftr_engine.proofs.Words.{all_asking, ap, append-nil, arith, content, count_by-le-length, entries_of, items_in, last_lines, last_versions}
use Rattle.lwaftr_engine.proofs.Words.{length, load_lines, loads_of, nat_le, no_totals, option_map, packets_from, refl, summary_text, sym, take, totals_from}
use Rattle.lwaftr_engine.proofs.Words.{totals_of, with_version, ◌++◌, ◌<◌, ◌∙◌, ◌∷◌, ◌≡◌, ◌≤◌, List, Totals, [], ℕ}
use Rattle.lwaftr_engine.proofs.Courses.{bare, some_course}
use Rattle.lwaftr_engine.proofs.Writing.{IsOpened, wrote}
use Rattle.lwaftr_engine.proofs.Begun.{lines_split}
use Rattle.lwaftr_engine.proofs.Going.{wrote_more}
use Rattle.reload_plan.specs.declared.loads.Slot.TheVariants as slot

pub suits_bare : {tables : ℕ → BindingTable} {windows : List Window} {s : State} {h : HistoryValue} → IsPlanOf tables windows s.plan → IsClosed s h →
    Suits s.plan s.draws (bare tables s.points)
suits_bare of closed = record { tables = of.compiled; versions = λ k d inside. sym ((rw closed.points at closed.drawn.under) k d inside) }

pub suits_same : {plan : Tables} {draws : List (ℕ × ℕ)} {c d : Course} → IsSameBut c d → Suits plan draws c → Suits plan draws d
suits_same same suits = record { tables = rw same.tables suits.tables; versions = rw same.version suits.versions }

none_due_yet : (slots : List Slot) → NoneIsDue [] slots
none_due_yet [] = tt
none_due_yet (slot.Version version ∷ rest) = refl
none_due_yet (slot.Refused cause ∷ rest) = none_due_yet rest

-- before the first record
pub none_written : {x : Setup} (c : Course) {opened now : Contents} {s : State} → IsFirst x.form x.run.errors s.progress → s.points ≡ [] →
    Wrote x.run [] [] [] opened now →
    HasWritten x c opened now s []
none_written {x} c first none wrote = record {
  stands = first.stands;
  stage_form = first.stage_form;
  number = first.number;
  entries = refl;
  asked = first.asked x.form c;
  totals = λ limited. first.totals;
  files = λ later limited. rw first.printed wrote;
  none_due = rw first.printed (rw none (none_due_yet x.slots));
  spoken = λ number inside. absurd (omega (arith, inside));
  reads = omega arith;
}

-- what is known of the points where the areas are closed
module _ {s : State} {h : HistoryValue} (closed : IsClosed s h) where
  pub its_planned : IsPlan s.plan
  its_planned = rw (← closed.same_plan) closed.history.planned

  pub points_placed : AreInWindows s.plan.windows s.points (length s.draws)
  points_placed = rw (← closed.points) (rw (← closed.same_plan) (rw closed.drawn.all closed.history.placed))

  pub few_points : length s.points < length s.plan.tables
  few_points = rw (← closed.points) (rw (← closed.same_plan) closed.history.few)

-- a run whose outputs were opened and whose areas are closed, under tables of which the plan's words are
pub record ClosedRun : Type 0 where
  pub laws : RunLaws
  pub x : Setup
  pub rate : IfSome x.run.errors IsRate
  pub tables : ℕ → BindingTable
  pub windows : List Window
  pub s : State
  pub h : HistoryValue
  pub of : IsPlanOf tables windows s.plan
  pub closed : IsClosed s h
  pub old : Contents
  pub opened : Contents
  pub opening : IsOpened x.run x.written old opened

-- what a run wrote until its records ended, and the course of which that is
pub record HasCourse (r : ClosedRun) (now : Contents) (rs : List Rec) : Type 0 where
  pub course : Course
  pub is_course : IsCourse r.tables r.windows r.x.run.errors r.s.points r.x.form rs course
  pub written : HasWritten r.x course r.opened now r.s rs
  pub limited : IsLimitedRun r.x course rs

module _ (r : ClosedRun) {rs : List Rec} where
  -- the table in force at a record is lawful
  pub lawful_at : (c : Course) → IsUnder r.tables r.s.points r.x.run.errors r.x.form rs c → (number : ℕ) → IsLawful (c.tables (c.version number))
  lawful_at c under number =
      let lawful : (n : ℕ) → n < length r.s.plan.tables → IsLawful (c.tables n) = rw under.tables_are (λ n inside. (r.of.compiled n inside).lawful) in
      lawful (c.version number)
      (omega (arith, few_points r.closed, count_by-le-length (λ (p : ℕ). nat_le p number) r.s.points, ap (λ (f : ℕ → ℕ). f number) under.in_force_are))

  -- a course of these records under the points of the desk
  abbrev pub course_with : {now : Contents} → AreAllPoints r.windows r.s.points (length rs) → AreWritten r.x r.opened now r.s rs → (c : Course) →
      IsUnder r.tables r.s.points r.x.run.errors r.x.form rs c → HasCourse r now rs
  course_with placed are c under = record {
    course = c;
    is_course = record {
      tables_are = under.tables_are;
      in_force_are = under.in_force_are;
      loaded = under.loaded;
      placed = placed;
      limited = under.limited;
      access = λ number i at. r.laws.access (c.tables (c.version number)) i (lawful_at c under number);
      sends = λ number i at. r.laws.sends (c.tables (c.version number)) i (lawful_at c under number);
    };
    written = are c (suits_same (record { tables = under.tables_are; version = under.in_force_are; loaded = under.loaded }) (suits_bare r.of r.closed));
    limited = under.limited;
  }

  -- what was counted are the totals of the run
  pub totals_are : {now : Contents} (has : HasCourse r now rs) → with_version r.s.progress.totals (length r.s.points) ≡ totals_of has.course r.x.form rs
  totals_are has =
      ap (λ (t : Totals). with_version t (length r.s.points)) (has.written.totals has.limited)
      ∙ (ap (λ (n : ℕ). with_version (totals_from has.course no_totals 0 (entries_of r.x.form rs)) n) (sym has.is_course.loaded)
      ∙ sym (r.laws.totals has.course r.x.form rs has.written.entries))

  -- the files of a run: opened, filled round by round, and finished
  pub is_written : {now e : Contents} {said took : Option (List ℕ)} (has : HasCourse r now rs) → IsFinished r.x r.s.progress r.s.points rs now e said took →
      IsWritten r.x.run r.x.slots has.course r.s.points r.x.form r.x.written rs r.old e said took
  is_written {now} {e} {said} has done =
      let P = packets_from has.course r.x.written 0 rs (entries_of r.x.form rs) in
      let more = last_versions r.x r.s.progress r.s.points in
      let versions = content r.opened r.x.run.versions in
      let all = wrote_more (has.written.files [] has.limited) (wrote r.x.run more [] (last_lines r.s.progress rs) now e done.did) in
      record {
        output = cc (all.output, append-nil P, r.opening.output);
        verdicts = cc (all.verdicts, r.opening.verdicts, has.written.stage_form);
        versions = all.versions_is
            ∙ (ap (λ (l : List ℕ). versions ++ (load_lines l (take r.s.progress.printed (loads_of r.x)) ++ more)) (append-nil r.s.points)
            ∙ (ap (λ (l : List ℕ). versions ++ l) (lines_split r.s.points r.s.progress.printed (loads_of r.x))
            ∙ ap (λ (l : List ℕ). l ++ load_lines r.s.points (loads_of r.x)) r.opening.versions));
        others = λ name u v w. all.others name u v w ∙ r.opening.others name u v w;
        summary = done.took ∙ ap (λ (t : Totals). option_map (λ (taken : List ℕ). taken ++ summary_text t) said) (totals_are has);
      }

  is_history : length r.s.draws ≡ length rs → all_asking (items_in (entries_of r.x.form rs)) ≤ r.s.reads →
      IsHistoryOf r.tables r.windows r.s.points r.x.form rs (Some r.h)
  is_history count asked = record {
    value = r.h;
    is = refl;
    plan = rw r.closed.same_plan r.of;
    same_points = r.closed.points;
    records = sym r.closed.drawn.all ∙ count;
    reads = omega (arith, asked, r.closed.reads);
  }

  -- and the run of them
  pub is_run : {now e : Contents} {said took : Option (List ℕ)} → AreAllPoints r.windows r.s.points (length rs) → AreWritten r.x r.opened now r.s rs →
      length r.s.draws ≡ length rs →
      Finishes r.x r.s.progress r.s.points said took now e →
      IsRun r.x.run r.tables r.windows r.x.slots r.x.form r.x.written rs r.old e said took (Some r.h)
  is_run {now} placed are count done =
      let some = some_course r.laws.limits r.tables r.s.points r.x.run.errors r.x.form rs r.rate in
      let has = course_with placed are some.course some.under in
      record {
        points = r.s.points;
        course = has.course;
        is_course = has.is_course;
        outputs = is_written has (done rs has.written.stands);
        is_history = is_history count has.written.reads;
      }
