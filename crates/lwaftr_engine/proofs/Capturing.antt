-- What a run leaves from the opening of its outputs on.
use Rattle.lwaftr_engine.proofs.Words.{AreAllPoints, AreBefore, AreSlotsOf, AreTaken, AreWritten, BindingTable, Bool, Breaks, CaptureBad, Contents}
use Rattle.lwaftr_engine.proofs.Words.{Did, DidFront, Ending, Err, Fault, Finishes, FinishesPart, Goes, HistoryValue, IfSome, IsAtFirst, IsBroken, IsClosed}
use Rattle.lwaftr_engine.proofs.Words.{IsFront, IsInput, IsPlan, IsPlanOf, IsRate, IsRun, IsWhole, LeavesBy, LeavesOpened, List, Moves, None, Ok, Option}
use Rattle.lwaftr_engine.proofs.Words.{Rec, Result, Rises, RunLaws, Setup, Some, Spot, State, Stop, Tables, Takes, Window, World, arith, content}
use Rattle.lwaftr_engine.proofs.Words.{ended_status, is_cut, is_failure, length, opening_steps, refl, some_slot_refused, stop_by, ℕ, ◌++◌, ◌∙◌, ◌≡◌, false, inl}
use Rattle.lwaftr_engine.proofs.Words.{inr, true, has_failed, Told, WrittenFiles}
use Rattle.lwaftr_engine.specs.Fronts.{NothingPut}
use Rattle.output_journal.specs.Ends.{OneRises}
use Rattle.lwaftr_engine.proofs.Closing.{ClosedRun, suits_bare, is_run}
use Rattle.lwaftr_engine.proofs.EndLemmas.{EndsAt, SomeLeft, ends_at, takes_by}
use Rattle.lwaftr_engine.proofs.Writing.{opening_front, opened}
use Rattle.lwaftr_engine.proofs.Fronting.{at_finish, at_opening, at_rounds, first_points}
use Rattle.lwaftr_engine.proofs.Courses.{bare}
use Rattle.lwaftr_engine.proofs.Moving.{moves_by, moves_join, moves_none, moves_three, told_all, told_by}
use Rattle.aftr_io.specs.declared.outside.Fault.TheVariants as fault
use Rattle.capture_io.specs.declared.rounds.Ending.TheVariants as ending

-- a broken run, where the reader stands before the first record, under every list of tables of which the plan's words are
abbrev pub Broken : Setup → Tables → Spot → Stop → Contents → Contents → Contents → Type 0
Broken x plan reader stop inputs old new = IsAtFirst reader x.form x.written (content inputs x.run.input) → (tables : ℕ → BindingTable) (windows : List Window) →
    IsPlanOf tables windows plan → AreSlotsOf x.run windows x.slots → IsBroken x.run tables windows x.slots inputs old new stop

-- a run from the opening of its outputs on, in the words of its capture
module _ (x : Setup) (inputs : Contents) {first : Spot} (at_first : IsAtFirst first x.form x.written (content inputs x.run.input)) where
  behind : {rs : List Rec} {last : Option (List ℕ × ℕ)} → AreBefore (first.left (content inputs x.run.input) 0) x.run.input first.at rs last →
      AreBefore (IsInput (content inputs x.run.input) at_first.header) x.run.input at_first.header.ends_at rs last
  behind {rs} part = record {
    rest = part.rest;
    ending = part.ending;
    capture = at_first.all (rs ++ part.rest) part.ending part.capture;
    place = part.place;
    last_is = part.last_is;
    in_records = omega (arith, at_first.at_is, part.in_records);
    reached = part.reached;
    next = part.next;
  }

  pub takes_all : {rs : List Rec} (stop : Stop) → Takes x.run.input first (content inputs x.run.input) rs stop.before.reading stop.after.reading →
      AreTaken x.run inputs at_first.header rs 3 stop
  takes_all {rs} stop (inl (same, all)) = inl (same, (all.0, at_first.all rs all.0 all.1))
  takes_all stop (inr (rose, part)) = inr (omega arith, (rose, behind part))

  pub broken : {tables : ℕ → BindingTable} {windows : List Window} {rs : List Rec} {old new : Contents} (made : ℕ) (stop : Stop) →
      AreTaken x.run inputs at_first.header rs made stop → IsFront x.run tables windows x.slots x.form x.written rs made old new stop →
      IsBroken x.run tables windows x.slots inputs old new stop
  broken {rs = rs} made stop taken front = record {
    header = at_first.header;
    sound = at_first.sound;
    records = rs;
    made = made;
    taken = taken;
    front = rw (at_first.form_is, at_first.written_is) at front;
  }

-- the run of these records
module _ (r : ClosedRun) (inputs : Contents) {first : Spot} (at_first : IsAtFirst first r.x.form r.x.written (content inputs r.x.run.input)) (rs : List Rec)
    (new : Contents) where
  abbrev Run : Option (List ℕ) → Option (List ℕ) → Type 0
  Run said now = IsRun r.x.run r.tables r.windows r.x.slots r.x.form r.x.written rs r.old new said now (Some r.h)

  whole : {said now : Option (List ℕ)} (ended : Option CaptureBad) → first.left (content inputs r.x.run.input) 0 rs ended → Run said now →
      IsWhole r.x.run r.tables r.windows r.x.slots inputs r.old new said now (Some r.h) ended
  whole ended left run = record {
    header = at_first.header;
    records = rs;
    capture = at_first.all rs ended left;
    is_run = rw (at_first.form_is, at_first.written_is) at run;
  }

  leaves_ended : (before now : World) (stop : Ending) → EndsAt r.x.run.input first (content inputs r.x.run.input) rs stop now.reading.last →
      Run before.said now.said → (refused : Bool) → some_slot_refused r.x.slots ≡ refused →
      LeavesBy r.x.run r.tables r.windows r.x.slots (ended_status (Ok stop) refused) before now (Some r.h) inputs r.old new
  leaves_ended before now ending.End it run true is = (whole None it run, is)
  leaves_ended before now ending.End it run false is = (whole None it run, is)
  leaves_ended before now (ending.Bad refusal) it run refused is = inl (whole (Some refusal) it run)
  leaves_ended before now ending.ReadFault it run refused is =
      inl (record {
        header = at_first.header;
        taken = rs;
        before = behind r.x inputs at_first it;
        is_run = rw (at_first.form_is, at_first.written_is) at run;
      })

pub ended_err : (x : Setup) (plan : Tables) (reader : Spot) (r : Result Ending Fault) (why : Fault) (before now : World) (history : Option HistoryValue) →
    r ≡ Err why → history ≡ None → Told before.reading.held (λ i. Moves before.writing.held now.writing.held (Broken x plan reader (stop_by why before now) i)) →
    Told before.reading.held (λ i. Moves before.writing.held now.writing.held (LeavesOpened x plan reader r before now history i))
ended_err x plan reader r why before now history is none step =
    rw is (by_fault why step) where
      by_fault : (why : Fault) → Told before.reading.held (λ i. Moves before.writing.held now.writing.held (Broken x plan reader (stop_by why before now) i)) →
          Told before.reading.held (λ i. Moves before.writing.held now.writing.held (LeavesOpened x plan reader (Err why) before now history i))
      by_fault fault.Failed step =
          told_by before.reading.held _ _
          (λ i broke. moves_by before.writing.held now.writing.held (Broken x plan reader (stop_by fault.Failed before now) i) _
          (λ m n broken at_first tables windows of. ((λ slots_of. broken at_first tables windows of slots_of), none)) broke) step
      by_fault fault.OutOfMemory step =
          told_by before.reading.held _ _
          (λ i broke. moves_by before.writing.held now.writing.held (Broken x plan reader (stop_by fault.OutOfMemory before now) i) _
          (λ m n broken at_first tables windows of. inr ((λ slots_of. broken at_first tables windows of slots_of), none)) broke) step

-- memory was wanted before anything was done
pub none_done : (x : Setup) (plan : Tables) (reader : Spot) (r : Result Ending Fault) (w : World) (history : Option HistoryValue) → r ≡ Err fault.OutOfMemory →
    history ≡ None → Told w.reading.held (λ i. Moves w.writing.held w.writing.held (LeavesOpened x plan reader r w w history i))
none_done x plan reader r w history is none =
    rw is (told_all w.reading.held _ (λ i. moves_none w.writing.held w.writing.held (LeavesOpened x plan reader (Err fault.OutOfMemory) w w history i)
    (λ m at_first tables windows of.
    inl (record { files = refl; sink = refl; none = none }, record { lost = refl; spoiled = refl; last = refl })) refl))

-- a call failed or did not, and no put did
pub one_rises : (why : Fault) (spoiled now puts : ℕ) → Rises (has_failed {T = Ending} (Err why)) spoiled now →
    OneRises (has_failed {T = Ending} (Err why)) spoiled now puts puts
one_rises fault.Failed spoiled now puts rises = inl rises
one_rises fault.OutOfMemory spoiled now puts same = (same, refl)

-- whether one of the two counts rises does not hang on what the call would have answered
pub one_fails_as : (T U : Type 0) (why : Fault) (spoiled now puts puts_now : ℕ) → OneRises (has_failed {T = T} (Err why)) spoiled now puts puts_now →
    OneRises (has_failed {T = U} (Err why)) spoiled now puts puts_now
one_fails_as T U fault.Failed spoiled now puts puts_now rises = rises
one_fails_as T U fault.OutOfMemory spoiled now puts puts_now same = same

-- what a log says of the call that failed
pub is_failed : (before now : ℕ) (why : Fault) → Rises (has_failed {T = Unit} (Err why)) before now → Rises (is_failure why) before now
is_failed before now fault.Failed rises = rises
is_failed before now fault.OutOfMemory rises = rises

pub opening_broken : (laws : RunLaws) (x : Setup) (plan : Tables) → IsPlan plan → IfSome x.run.errors IsRate → (reader : Spot) → SomeLeft reader.left →
    (stop : Stop) → NothingPut stop → stop.after.reading.lost ≡ stop.before.reading.lost →
    Moves stop.before.writing.held stop.after.writing.held (DidFront x.run (opening_steps x.run x.written)) →
    Told stop.before.reading.held (λ i. Moves stop.before.writing.held stop.after.writing.held (Broken x plan reader stop i))
opening_broken laws x plan planned rate reader some stop nothing same step =
    told_all stop.before.reading.held _
    (λ i. moves_by stop.before.writing.held stop.after.writing.held (DidFront x.run (opening_steps x.run x.written)) (Broken x plan reader stop i)
    (λ m n front at_first tables windows of slots_of.
    let rest = some (content i x.run.input) 0 in
    let half = opening_front x.run x.written m n front in
    broken x i at_first half.made stop (inl (same, (rest.1, at_first.all rest.0 rest.1 rest.2)))
    (at_opening laws x rate rest.0 (first_points planned of rest.0) stop nothing half)) step)

-- a run whose outputs were opened
pub record Opened : Type 1 where
  pub laws : RunLaws
  pub x : Setup
  pub rate : IfSome x.run.errors IsRate
  pub plan : Tables
  pub first : Spot
  pub before : World
  pub middle : WrittenFiles
  pub opening : Moves before.writing.held middle.held (Did x.run (opening_steps x.run x.written))

-- whose areas are closed
pub record Captured : Type 1 where
  pub opened : Opened
  pub s : State
  pub its_plan : s.plan ≡ opened.plan
  pub h : HistoryValue
  pub closed : IsClosed s h
  pub now : World

-- and whose records have ended
pub record AtEnd : Type 1 where
  pub run : Captured
  pub reader : Spot
  pub some : SomeLeft reader.left
  pub stop : Ending
  pub end : WrittenFiles
  pub lost : Rises (is_cut (Some stop)) run.opened.before.reading.lost run.now.reading.lost
  pub count : length run.s.draws ≡ run.s.progress.number
  pub placed : AreAllPoints run.s.plan.windows run.s.points run.s.progress.number
  pub going : Told run.opened.before.reading.held (λ i. Moves run.opened.middle.held end.held
      (Goes run.opened.x run.s run.opened.first reader (Some stop) run.now.reading.last (content i run.opened.x.run.input)))

abbrev pub opened_run : (laws : RunLaws) (x : Setup) → IfSome x.run.errors IsRate → (plan : Tables) (first : Spot) (before : World)
    (middle : WrittenFiles) → Moves before.writing.held middle.held (Did x.run (opening_steps x.run x.written)) → Opened
opened_run laws x rate plan first before middle opening =
    record { laws = laws; x = x; rate = rate; plan = plan; first = first; before = before; middle = middle; opening = opening }

abbrev pub captured : (opened : Opened) (s : State) → s.plan ≡ opened.plan → (h : HistoryValue) → IsClosed s h → (now : World) → Captured
captured opened s its_plan h closed now = record { opened = opened; s = s; its_plan = its_plan; h = h; closed = closed; now = now }

abbrev pub at_end : (run : Captured) (reader : Spot) → SomeLeft reader.left → (stop : Ending) (end : WrittenFiles) →
    Rises (is_cut (Some stop)) run.opened.before.reading.lost run.now.reading.lost → length run.s.draws ≡ run.s.progress.number →
    AreAllPoints run.s.plan.windows run.s.points run.s.progress.number →
    Told run.opened.before.reading.held (λ i. Moves run.opened.middle.held end.held
    (Goes run.opened.x run.s run.opened.first reader (Some stop) run.now.reading.last (content i run.opened.x.run.input))) → AtEnd
at_end run reader some stop end lost count placed going =
    record { run = run; reader = reader; some = some; stop = stop; end = end; lost = lost; count = count; placed = placed; going = going }

module _ (r : Captured) where
  abbrev o : Opened
  o = r.opened

  abbrev pub closed_run : (a b : Contents) → Did r.opened.x.run (opening_steps r.opened.x.run r.opened.x.written) a b → (tables : ℕ → BindingTable)
      (windows : List Window) → IsPlanOf tables windows r.opened.plan → ClosedRun
  closed_run a b did tables windows of = record {
    laws = r.opened.laws;
    x = r.opened.x;
    rate = r.opened.rate;
    tables = tables;
    windows = windows;
    s = r.s;
    h = r.h;
    of = rw r.its_plan of;
    closed = r.closed;
    old = a;
    opened = b;
    opening = opened r.opened.x.run r.opened.x.written a b did;
  }

  pub rounds_broken : (why : Fault) → NothingPut (stop_by why o.before r.now) →
      Told o.before.reading.held (λ i. Moves o.middle.held r.now.writing.held
      (Breaks o.x r.s o.first o.before.reading r.now.reading (content i o.x.run.input))) →
      Told o.before.reading.held (λ i. Moves o.before.writing.held r.now.writing.held (Broken o.x o.plan o.first (stop_by why o.before r.now) i))
  rounds_broken why nothing breaking =
      told_by o.before.reading.held _ _
      (λ i broke.
      moves_join o.before.writing.held o.middle.held r.now.writing.held _
      (Breaks o.x r.s o.first o.before.reading r.now.reading (content i o.x.run.input)) (Broken o.x o.plan o.first (stop_by why o.before r.now) i)
      (λ a b d did breaks at_first tables windows of slots_of.
      let run = closed_run a b did tables windows of in
      let stop = stop_by why o.before r.now in
      let it = breaks at_first.stands in
      broken o.x i at_first 3 stop (takes_all o.x i at_first stop it.taken) (at_rounds run slots_of stop nothing it))
      o.opening broke)
      breaking

-- these are its records
record HasRecords (e : AtEnd) (run : ClosedRun) (bytes : List ℕ) (now : Contents) : Type 0 where
  pub rs : List Rec
  pub ends : EndsAt run.x.run.input e.run.opened.first bytes rs e.stop e.run.now.reading.last
  pub are : AreWritten run.x run.opened now run.s rs
  pub placed : AreAllPoints run.windows run.s.points (length rs)
  pub count : length run.s.draws ≡ length rs

module _ (e : AtEnd) where
  abbrev r : Captured
  r = e.run

  abbrev x : Setup
  x = e.run.opened.x

  abbrev first : Spot
  first = e.run.opened.first

  abbrev before : World
  before = e.run.opened.before

  records_of : (i a b d : Contents) (did : Did x.run (opening_steps x.run x.written) a b) →
      Goes x r.s first e.reader (Some e.stop) r.now.reading.last (content i x.run.input) b d →
      IsAtFirst first x.form x.written (content i x.run.input) →
      (tables : ℕ → BindingTable) (windows : List Window) (of : IsPlanOf tables windows r.opened.plan) →
      HasRecords e (closed_run r a b did tables windows of) (content i x.run.input) d
  records_of i a b d did goes at_first tables windows of =
      let run = closed_run e.run a b did tables windows of in
      let took = goes at_first.stands in
      record {
        rs = took.records;
        ends = ends_at e.stop e.some took.taken;
        are = took.written;
        placed = rw (← took.taken.count) (rw (← run.of.same_windows) e.placed);
        count = e.count ∙ took.taken.count;
      }

  pub finish_broken : (why : Fault) →
      Moves e.end.held r.now.writing.held
      (FinishesPart x r.s.progress r.s.points (is_failure why) before.writing.spoiled r.now.writing.spoiled before.said r.now.said) →
      Told before.reading.held (λ i. Moves before.writing.held r.now.writing.held (Broken x r.opened.plan first (stop_by why before r.now) i))
  finish_broken why finishing =
      told_by before.reading.held _ _
      (λ i going.
      moves_three before.writing.held r.opened.middle.held e.end.held r.now.writing.held _
      (Goes x r.s first e.reader (Some e.stop) r.now.reading.last (content i x.run.input)) _ (Broken x r.opened.plan first (stop_by why before r.now) i)
      (λ a b d n did goes half at_first tables windows of slots_of.
      let run = closed_run e.run a b did tables windows of in
      let it = records_of i a b d did goes at_first tables windows of in
      let stop = stop_by why before e.run.now in
      let stands = (it.are (bare tables e.run.s.points) (suits_bare run.of run.closed)).stands in
      let bytes = content i x.run.input in
      broken x i at_first 3 stop (takes_all x i at_first stop (takes_by x.run.input first bytes before.reading e.run.now.reading e.stop e.lost it.ends))
      (at_finish run slots_of why before e.run.now it.placed it.are (half it.rs stands))) r.opened.opening going finishing)
      e.going

  pub ends : Moves e.end.held r.now.writing.held (Finishes x r.s.progress r.s.points before.said r.now.said) →
      Told before.reading.held (λ i. Moves before.writing.held r.now.writing.held
      (LeavesOpened x r.opened.plan first (Ok e.stop) before r.now (Some r.h) i))
  ends finishing =
      told_by before.reading.held _ _
      (λ i going.
      moves_three before.writing.held r.opened.middle.held e.end.held r.now.writing.held _
      (Goes x r.s first e.reader (Some e.stop) r.now.reading.last (content i x.run.input)) _
      (LeavesOpened x r.opened.plan first (Ok e.stop) before r.now (Some r.h) i)
      (λ a b d n did goes done at_first tables windows of.
      let run = closed_run e.run a b did tables windows of in
      let it = records_of i a b d did goes at_first tables windows of in
      leaves_ended run i at_first it.rs n before e.run.now e.stop it.ends (is_run run it.placed it.are it.count done) (some_slot_refused x.slots) refl)
      r.opened.opening going finishing)
      e.going
