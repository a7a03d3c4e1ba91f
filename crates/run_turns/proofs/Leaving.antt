-- What a run leaves once its rounds are over.
use Rattle.run_turns.proofs.Words.{◌≡◌, ℕ, ◌+◌, ◌≤◌, List, [], ◌++◌, length, Option, None, Some, Ok, Err, false, refl, sym, ◌∙◌, ap, arith, subst}
use Rattle.run_turns.proofs.Words.{append-nil, append_assoc, length-append, AreasValue, AreWritten, Breaks, Contents, EndsBy, Fault, Leaves, Moves, Putting}
use Rattle.run_turns.proofs.Words.{Readable, Rec, Rises, RoundLaws, Setup, Spot, State, Taking, Told, WentWell, WrittenFiles, content, has_failed, is_cut}
use Rattle.run_turns.proofs.Words.{Ending, HasTaken, Progress}
use Rattle.std.specs.Prelude.{Result, drop}
use Rattle.run_output.specs.Versions.{NoneIsDue}
use Rattle.aftr_io.specs.declared.outside.Fault.TheVariants as fault
use Rattle.run_turns.proofs.EndLemmas.{SomeLeft}
use Rattle.run_turns.proofs.Ended.{HasGone}
use Rattle.run_turns.proofs.Keeping.{Keeps, takes_before}
use Rattle.run_turns.proofs.Moving.{moves_by, told_by}
use Rattle.run_turns.proofs.Rounding.{state_of}
use Rattle.run_turns.proofs.Stepping.{IsSince, cut_more, cut_since, suited}

-- A state that came of another without a draw: more tables came into force, and more words may have been read.
pub record IsLater (p q : State) : Type 0 where
  pub same_plan : q.plan ≡ p.plan
  pub same_progress : q.progress ≡ p.progress
  pub same_draws : q.draws ≡ p.draws
  pub news : List ℕ
  pub points : q.points ≡ p.points ++ news
  pub reads : p.reads ≤ q.reads

since_later : {p q : State} → IsLater p q → IsSince p q
since_later {p} later = record {
  same_plan = later.same_plan;
  drawn = [];
  draws = later.same_draws ∙ sym (append-nil p.draws);
  news = later.news;
  points = later.points;
}

written_later : {x : Setup} {p q : State} {o n : Contents} {rs : List Rec} → IsLater p q → AreWritten x o n p rs → AreWritten x o n q rs
written_later {x} {p} {q} {o} {n} {rs} later written c suits =
    let h = written c (suited (since_later later) suits) in
    let more = λ (l : List ℕ).
    let joined : q.points ++ l ≡ p.points ++ (later.news ++ l) = ap (λ (k : List ℕ). k ++ l) later.points ∙ append_assoc p.points later.news l in
    joined in
    record {
      stands = rw later.same_progress h.stands;
      stage_form = rw later.same_progress h.stage_form;
      number = rw later.same_progress h.number;
      entries = h.entries;
      asked = rw later.same_progress h.asked;
      totals = rw later.same_progress h.totals;
      files = λ l limited. rw (more l, later.same_progress) (h.files (later.news ++ l) limited);
      told = h.told;
      since = h.since ++ later.news;
      points = later.points ∙ (ap (λ (k : List ℕ). k ++ later.news) h.points ∙ append_assoc h.told h.since later.news);
      none_due = subst (λ (k : Progress). NoneIsDue h.told (drop k.printed x.slots)) (sym later.same_progress) h.none_due;
      spoken = h.spoken;
      reads = omega (arith, h.reads, later.reads);
    }

-- nothing of what rounds left is lost
pub leaves_later : {x : Setup} {p q : State} {first now : Spot} {a b : Readable} {o n : WrittenFiles} (ended : Result Ending Fault) → IsLater p q →
    Leaves x p first now a b o n ended → Leaves x q first now a b o n ended
leaves_later {x} {p} {q} {first} {now} {a} {b} {o} {n} (Ok ending) later left = record {
  went = record {
    goes = told_by a.held _ _ (λ i moved. moves_by o.held n.held _ _ (λ m k goes stood.
        let it = goes stood in
        record { records = it.records; taken = rw later.same_progress it.taken; written = written_later later it.written }) moved) left.went.goes;
    reads = left.went.reads;
    in_records = left.went.in_records;
    bounded = rw later.same_progress left.went.bounded;
    drawn = rw (later.same_progress, later.same_draws) left.went.drawn;
  };
  broken = tt;
  read = left.read;
  others = left.others;
  spoiled = left.spoiled;
}
leaves_later {x} {p} {q} {first} {now} {a} {b} {o} {n} (Err why) later left = record {
  went = tt;
  broken = told_by a.held _ _ (λ i moved. moves_by o.held n.held _ _ (λ m k breaks stood.
      let it = breaks stood in
      record { records = it.records; taken = it.taken; drawn = rw later.same_draws it.drawn; part = cut_since (since_later later) it.part }) moved) left.broken;
  read = left.read;
  others = left.others;
  spoiled = left.spoiled;
}

-- whatever the call was to answer
rises_as : (why : Fault) (before now : ℕ) → Rises (has_failed {T = Unit} (Err why)) before now → Rises (has_failed {T = Ending} (Err why)) before now
rises_as fault.OutOfMemory before now rises = rises
rises_as fault.Failed before now rises = rises

module _ {C : Type 0} (laws : RoundLaws) (x : Setup) (areas : AreasValue) (place : C → Spot) (some : (r : C) → SomeLeft (place r).left) (first : Spot)
    (a0 : Readable) (w0 : WrittenFiles) (share0 reads0 : ℕ) (s : Taking C) (w : Putting) (now : ℕ) where
  abbrev pub at_end : State
  at_end = state_of areas s w now

  abbrev Kept : Option Fault → Type 0
  Kept answer = Keeps laws x areas place some first a0 w0 share0 reads0 s w now answer

  went : (ending : Ending) → Kept None → (s.refused ≡ false → length s.dealer.seat.known.actor.draws ≡ s.number) → s.at.ahead ≡ [] →
      s.at.ending ≡ Some ending → WentWell x at_end first (place s.at.reader) a0 s.at.files w0 w.files ending
  went ending kept drawn none is = record {
    goes = told_by a0.held _ _ (λ i moved. moves_by w0.held w.files.held _ _ (λ m k all stood.
        let it = all stood in
        let taken : HasTaken x.run.input first (place s.at.reader) (content i x.run.input) it.records s.number (Some ending) s.at.files.last =
        subst (λ (n : ℕ). HasTaken x.run.input first (place s.at.reader) (content i x.run.input) it.records n (Some ending) s.at.files.last)
        (omega (arith, ap (λ (l : List Rec). length l) none))
        (subst (λ (l : List Rec). HasTaken x.run.input first (place s.at.reader) (content i x.run.input) l (s.number + length s.at.ahead) (Some ending) s.at.files.last)
        (ap (λ (l : List Rec). it.records ++ l) none ∙ append-nil it.records)
        (subst (λ (e : Option Ending). HasTaken x.run.input first (place s.at.reader) (content i x.run.input) (it.records ++ s.at.ahead)
        (s.number + length s.at.ahead) e s.at.files.last) is (it.read.sound kept.holds.0))) in
        record { records = it.records; taken = taken; written = it.written }) moved) kept.holds.1.1.1;
    reads = rw is at kept.reading;
    in_records = rw is at kept.in_records;
    bounded = kept.holds.1.1.0;
    drawn = drawn kept.holds.0;
  }

  broke : (why : Fault) → Kept (Some why) → Told a0.held (λ i. Moves w0.held w.files.held (Breaks x at_end first a0 s.at.files (content i x.run.input)))
  broke why kept = told_by a0.held _ _ (λ i moved. moves_by w0.held w.files.held _ _ (λ m k part stood.
      let it = part stood in
      let more = takes_before laws x areas place some first a0 w0 s s (content i x.run.input) it.records kept.reading it.read s.refused refl in
      record {
        records = it.records ++ more.0;
        taken = more.1;
        drawn = omega (arith, it.read.few, length-append it.records more.0);
        part = cut_more it.part more.0;
      }) moved) kept.holds.1

  pub leaves_over : (answer : Option Fault) (ending : Option Ending) (ended : Result Ending Fault) → s.at.ending ≡ ending → EndsBy answer ending ended → Kept answer →
      (answer ≡ None → HasGone s) → (s.refused ≡ false → length s.dealer.seat.known.actor.draws ≡ s.number) →
      Leaves x at_end first (place s.at.reader) a0 s.at.files w0 w.files ended
  leaves_over None None ended is by kept gone drawn = absurd by
  leaves_over None (Some ending) ended is by kept gone drawn = rw by (record {
    went = went ending kept drawn (gone refl).0 is;
    broken = tt;
    read = (is_cut s.at.ending, kept.reading);
    others = kept.others;
    spoiled = kept.holds.1.0;
  })
  leaves_over (Some why) ending ended is by kept gone drawn = rw by (record {
    went = tt;
    broken = broke why kept;
    read = (is_cut s.at.ending, kept.reading);
    others = kept.others;
    spoiled = rises_as why w0.spoiled w.files.spoiled kept.holds.0;
  })
