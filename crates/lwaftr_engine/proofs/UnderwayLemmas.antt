-- Rounds of which the last one is written while the next one is judged and the one behind it is read.
use Rattle.lwaftr_engine.proofs.Words.{did_none, outputs_of, All-append, Breaks, BreaksLast, Contents, Course, Did, DidBoth, DidFront, Ending, Goes, HasRead, HasTaken}
use Rattle.lwaftr_engine.proofs.Words.{IsAtStart, IsBrokenFrom, IsCutFrom, IsNext, IsNothing, IsPending, IsPlaced, IsUnderWay, Halves, Moves, Option, Pending, Readable}
use Rattle.lwaftr_engine.proofs.Words.{ReadsPast, Rises, Round, Router, RunLaws, Setup, Spot, StandsBetween, State, StaysOnDuty, Suits, Takes, Told, UnderWay}
use Rattle.lwaftr_engine.proofs.Words.{WentWell, [], ap, append-nil, append_assoc, arith, content, is_cut, length, length-append, lines_in, packets_in, refl}
use Rattle.lwaftr_engine.proofs.Words.{round_log, state_of, steps_of, string_bytes, subst, sym, take, take-nil, ◌++◌, ◌+◌, ◌∙◌, ◌≡◌, ◌≤◌, Areas, List, None}
use Rattle.lwaftr_engine.proofs.Words.{Rec, Some, Step, inl, inr, ℕ}
use Rattle.lwaftr_engine.proofs.EndLemmas.{SomeLeft, ends_at, takes_by}
use Rattle.lwaftr_engine.proofs.Writing.{WroteFront, wrote_front, in_others, in_tables, wrote}
use Rattle.lwaftr_engine.proofs.Begun.{TakenUnder, begun_more, begun_tables, still_begun}
use Rattle.lwaftr_engine.proofs.Steps.{follows_more, no_further, suits_before}
use Rattle.lwaftr_engine.proofs.Moving.{moves_join, moves_none, told_all, told_both, told_by, told_still}
use Rattle.lwaftr_engine.proofs.Closing.{none_written}
use Rattle.lwaftr_engine.proofs.Going.{RoundUnder, written_more}
use Rattle.capture_io.specs.declared.rounds.Ending.TheVariants as ending

no_steps : (p : Pending) → IsNothing p → steps_of p ≡ []
no_steps p none = λ i. round_log (none.versions i) (none.packets i) (none.lines i)

-- before the first round is judged
module _ (x : Setup) {r : Router} (start : IsAtStart x r) where
  cut_none : (m n : Contents) → Did x.run [] m n → (rs : List Rec) → IsCutFrom x (state_of r) m n rs
  cut_none m n did rs = record {
    taken = [];
    rest = rs;
    all = refl;
    begun = λ later c suits.
        let h = none_written c {s = state_of r} start.first start.no_points (wrote x.run [] [] [] m n did) in
        let t : TakenUnder = record { x = x; c = c; opened = m; before = n; s = state_of r; taken = []; h = h } in
        still_begun t later;
  }

  pending_none : (m : Contents) (steps : List Step) → steps ≡ [] → IsPending x (state_of r) steps m m []
  pending_none m steps none = record {
    whole = λ n did c suits. none_written c start.first start.no_points (wrote x.run [] [] [] m n (rw (← none) did));
    part = λ n front. cut_none m n (rw (← (ap (λ (l : List Step). take front.0 l) none ∙ take-nil front.0)) front.1) [];
  }

  taken_first : {first now : Spot} {bytes : List ℕ} {round : Round} {last : Option (List ℕ × ℕ)} →
      round.number ≡ r.progress.number + length round.records → IsNext x.run.input first now r.progress.number bytes round last →
      IsPlaced first.at now.at round → HasTaken x.run.input first now bytes round.records round.number round.ending last
  taken_first numbered read placed = record {
    stands = read.goes.stands;
    count = omega (arith, numbered, start.first.number);
    follows = rw (← start.first.number) read.goes.follows;
    forward = placed.forward;
    within = placed.within;
    stopped = read.stopped;
  }

  -- the first round could not be read: nothing more was written
  pub not_begun : (first : Spot) → SomeLeft first.left → (a b : Readable) (w : Option Contents) → b.lost ≡ a.lost →
      Told a.held (λ i. Moves w w (Breaks x (state_of r) first a b (content i x.run.input)))
  not_begun first some a b w lost =
      told_all a.held _
      (λ i. moves_none w w (Breaks x (state_of r) first a b (content i x.run.input))
      (λ m here.
      let left = some (content i x.run.input) 0 in
      record {
        records = left.0;
        taken = inl (lost, (left.1, left.2));
        drawn = omega (arith, ap (λ (l : List (ℕ × ℕ)). length l) start.no_draws);
        up_to_date = inl (ap (λ (l : List (ℕ × ℕ)). length l) start.no_draws);
        part = cut_none m m (did_none (outputs_of x.run) m) left.0;
      }) refl)

  -- it is read, and nothing is pending
  pub begin_rounds : (first now : Spot) (round : Round) (pending : Pending) → IsNothing pending → (h w v : Option Contents) → v ≡ w →
      (last : Option (List ℕ × ℕ)) → HasRead x first now r.progress.number h last round →
      Told h (λ i. Moves w v (StandsBetween x (state_of r) (steps_of pending) first now round last (content i x.run.input)))
  begin_rounds first now round pending none h w v same last read =
      told_still h w v _ (λ i. StandsBetween x (state_of r) (steps_of pending) first now round last (content i x.run.input)) (λ i m told stood. record {
        records = [];
        pending = pending_none m (steps_of pending) (no_steps pending none);
        taken = taken_first read.in_hand.numbered (told stood) read.placed;
      }) same read.told

-- it is one of what they and more write
cut_more : {x : Setup} {s : State} {opened n : Contents} {records : List Rec} → IsCutFrom x s opened n records → (more : List Rec) →
    IsCutFrom x s opened n (records ++ more)
cut_more cut more = record {
  taken = cut.taken;
  rest = cut.rest ++ more;
  all = ap (λ (l : List Rec). l ++ more) cut.all ∙ append_assoc cut.taken cut.rest more;
  begun = cut.begun;
}

-- the records of the rounds that were read
abbrev TakesMore : List ℕ → Spot → List ℕ → List Rec → Readable → Readable → Type 0
TakesMore name first bytes rs a b = (more : List Rec) × Takes name first bytes (rs ++ more) a b

takes_of : {name : List ℕ} {first here : Spot} {bytes : List ℕ} {rs : List Rec} {number : ℕ} (stop : Option Ending) (a b : Readable) →
    SomeLeft here.left → HasTaken name first here bytes rs number stop b.last → Rises (is_cut stop) a.lost b.lost → TakesMore name first bytes rs a b
takes_of {bytes = bytes} {number = number} None a b some taken rises =
    let rest = some bytes number in
    (rest.0, inl (rises, (rest.1, taken.follows rest.0 rest.1 rest.2)))
takes_of {name = name} {first = first} {bytes = bytes} {rs = rs} (Some stop) a b some taken rises =
    ([], rw (append-nil rs) (takes_by name first bytes a b stop rises (ends_at stop some taken)))

-- a round under way: what was known when the records began, and what is known of it
pub record InRounds : Type 1 where
  pub laws : RunLaws
  pub x : Setup
  pub first : Spot
  pub here : Spot
  pub w : UnderWay
  pub before : Router
  pub a : Halves
  pub m : Halves
  pub under : Told a.reading.held (λ i. Moves a.writing.held m.writing.held
      (StandsBetween x (state_of before) (steps_of w.pending) first here w.round m.reading.last (content i x.run.input)))

-- the workers and the desk behind it
module _ (r : InRounds) (now : Router) (made : Pending) (duty : StaysOnDuty r.before.shift now.shift r.w.round.number) where
  abbrev u : List Step
  u = steps_of r.w.pending

  abbrev round : Round
  round = r.w.round

  abbrev input : Contents → List ℕ
  input i = content i r.x.run.input

  abbrev Under : List ℕ → Contents → Contents → Type 0
  Under bytes opened m = IsUnderWay r.x (state_of r.before) u r.first r.here r.w.round r.m.reading.last bytes opened m

  abbrev Between : List ℕ → Contents → Contents → Type 0
  Between bytes = StandsBetween r.x (state_of r.before) u r.first r.here r.w.round r.m.reading.last bytes

  abbrev Well : Type 0
  Well = WentWell r.x r.before now r.w.round made

  planned : {c : Course} → Suits now.shift.areas.plan now.shift.seat.known.actor.draws c →
      Suits r.before.shift.areas.plan now.shift.seat.known.actor.draws c
  planned suits = rw (ap (λ (k : Areas). k.plan) duty.areas) at suits

  suited : {c : Course} → Suits now.shift.areas.plan now.shift.seat.known.actor.draws c →
      Suits r.before.shift.areas.plan r.before.shift.seat.known.actor.draws c
  suited {c} suits =
      suits_before r.before.shift.areas.plan r.before.shift.seat.known.actor.draws duty.adds.drawn now.shift.seat.known.actor.draws c
      duty.adds.draws (planned suits)

  -- the round was judged behind these records, which were put
  pending_more : {opened m n : Contents} {records : List Rec} → IsPending r.x (state_of r.before) u opened m records → Did r.x.run u m n →
      Well → IsPending r.x (state_of now) (steps_of made) opened n (records ++ r.w.round.records)
  pending_more {opened} {m} {n} {records} pending did well = record {
    whole = λ next done c suits. written_more (under_course c suits) next (wrote r.x.run vs ps ls n next done);
    part = λ next front. by_front next (wrote_front r.x.run vs ps ls n next front);
  } where
    vs : List ℕ
    vs = string_bytes made.versions

    ps : List ℕ
    ps = packets_in made.rendered

    ls : List ℕ
    ls = lines_in made.rendered

    under_course : (c : Course) → Suits now.shift.areas.plan now.shift.seat.known.actor.draws c → RoundUnder
    under_course c suits = record {
      laws = r.laws;
      x = r.x;
      p = state_of r.before;
      q = state_of now;
      records = r.w.round.records;
      made = made;
      judged = well.judged;
      c = c;
      suits = planned suits;
      opened = opened;
      before = n;
      taken = records;
      h = pending.whole n did c (suited suits);
    }

    by_front : (next : Contents) → WroteFront r.x.run vs ps ls n next → IsCutFrom r.x (state_of now) opened next (records ++ r.w.round.records)
    by_front next (in_tables count w) = record {
      taken = records;
      rest = r.w.round.records;
      all = refl;
      begun = λ later c suits. begun_tables (under_course c suits) later count w;
    }
    by_front next (in_others i k w) = record {
      taken = records ++ r.w.round.records;
      rest = [];
      all = sym (append-nil (records ++ r.w.round.records));
      begun = λ later c suits. begun_more (under_course c suits) later i k w;
    }

  -- a front of what the first records write is one with points that came since, and more draws
  cut_since : {opened n : Contents} {records : List Rec} → IsCutFrom r.x (state_of r.before) opened n records → IsCutFrom r.x (state_of now) opened n records
  cut_since cut = record {
    taken = cut.taken;
    rest = cut.rest;
    all = cut.all;
    begun = λ later c suits.
        let same : r.before.shift.desk.known.points ++ (duty.adds.news ++ later) ≡ now.shift.desk.known.points ++ later =
        sym (append_assoc r.before.shift.desk.known.points duty.adds.news later) ∙ ap (λ (l : List ℕ). l ++ later) (sym duty.adds.points) in
        rw (← same) (cut.begun (duty.adds.news ++ later) c (suited suits));
  }

  -- one round more was read
  taken_more : {bytes : List ℕ} {opened m : Contents} (there : Spot) {next : Round} {last : Option (List ℕ × ℕ)} (w : Under bytes opened m) →
      next.number ≡ r.w.round.number + length next.records →
      IsNext r.x.run.input r.here there r.w.round.number bytes next last → IsPlaced r.here.at there.at next →
      HasTaken r.x.run.input r.first there bytes ((w.records ++ r.w.round.records) ++ next.records) next.number next.ending last
  taken_more {bytes} there {next} w numbered read placed =
      let rs = w.records ++ r.w.round.records in
      record {
        stands = read.goes.stands;
        count = omega (arith, w.taken.count, numbered, length-append (w.records ++ r.w.round.records) next.records);
        follows = follows_more r.first.left r.here.left there.left bytes 0 r.w.round.number next.number rs next.records w.taken.follows read.goes.follows;
        forward = omega (arith, w.taken.forward, placed.forward);
        within = All-append (λ d. d.next_at ≤ there.at) rs next.records (no_further rs r.here.at there.at placed.forward w.taken.within) placed.within;
        stopped = read.stopped;
      }

  -- no read failed, and all that is left counts; or one did in the round that was read last
  takes_past : {bytes : List ℕ} {opened m : Contents} (there : Spot) (b : Readable) → SomeLeft r.here.left → SomeLeft there.left → (w : Under bytes opened m) →
      ReadsPast r.x.run.input r.here there r.w.round.number bytes r.a.reading b →
      TakesMore r.x.run.input r.first bytes (w.records ++ r.w.round.records) r.a.reading b
  takes_past {bytes} there b some some_there w (inl same) =
      let rest = some bytes r.w.round.number in
      (rest.0, inl (same, (rest.1, w.taken.follows rest.0 rest.1 rest.2)))
  takes_past {bytes} there b some some_there w (inr (rose, cut)) =
      let rs = w.records ++ r.w.round.records in
      let R : Option Ending → Type 0 = λ e. Rises (is_cut e) r.a.reading.lost b.lost in
      let T : List Rec → Type 0 = λ l. Takes r.x.run.input r.first bytes l r.a.reading b in
      let taken = taken_more there w cut.numbered (cut.next w.taken.stands) cut.placed in
      let it = takes_of cut.round.ending r.a.reading b some_there taken (subst R (sym cut.cut) rose) in
      (cut.round.records ++ it.0, subst T (append_assoc rs cut.round.records it.0) it.1)

  -- the round was judged, the one before it put, and the next one read
  pub steps_on : (b : Halves) (there : Spot) {next : Round} → Well →
      HasRead r.x r.here there r.w.round.number r.a.reading.held b.reading.last next → Moves r.m.writing.held b.writing.held (Did r.x.run u) →
      Told r.a.reading.held (λ i. Moves r.a.writing.held b.writing.held
      (StandsBetween r.x (state_of now) (steps_of made) r.first there next b.reading.last (input i)))
  steps_on b there {next} well read did =
      told_both r.a.reading.held _ _ _
      (λ i under told.
      moves_join r.a.writing.held r.m.writing.held b.writing.held (Between (input i)) (Did r.x.run u) _
      (λ a m n way done stood.
      let w : Under (input i) a m = way stood in
      record {
        records = w.records ++ r.w.round.records;
        pending = pending_more w.pending done well;
        taken = taken_more there w read.in_hand.numbered (told w.taken.stands) read.placed;
      })
      under did)
      r.under read.told

  -- the last round was judged, and all is put
  pub ends_well : (after : Option Contents) {stop : Option Ending} → Well → r.w.round.ending ≡ stop →
      Moves r.m.writing.held after (DidBoth r.x.run u (steps_of made)) →
      Told r.a.reading.held (λ i. Moves r.a.writing.held after (Goes r.x (state_of now) r.first r.here stop r.m.reading.last (input i)))
  ends_well after {stop} well stop_is did =
      told_by r.a.reading.held _ _
      (λ i under.
      moves_join r.a.writing.held r.m.writing.held after (Between (input i)) (DidBoth r.x.run u (steps_of made)) _
      (λ a m n way both stood.
      let w : Under (input i) a m = way stood in
      let rs = w.records ++ r.w.round.records in
      let T : Option Ending → Type 0 = λ e. HasTaken r.x.run.input r.first r.here (input i) rs now.progress.number e r.m.reading.last in
      record {
        records = w.records ++ r.w.round.records;
        taken = subst T stop_is (rw well.number w.taken);
        written = (pending_more w.pending both.1 well).whole n both.2;
      })
      under did)
      r.under

  -- a part of what the records write was written, and no more
  broken_off : (b : Readable) {bytes : List ℕ} {opened n : Contents} {rs : List Rec} → TakesMore r.x.run.input r.first bytes rs r.a.reading b →
      r.w.round.number ≡ length rs → IsCutFrom r.x (state_of now) opened n rs → IsBrokenFrom r.x (state_of now) r.first r.a.reading b bytes opened n
  broken_off b {rs = rs} takes count cut = record {
    records = rs ++ takes.0;
    taken = takes.1;
    drawn = omega (arith, duty.few, count, length-append rs takes.0);
    up_to_date = duty.up_to_date;
    part = cut_more cut takes.0;
  }

  part_broken : (b : Readable) {bytes : List ℕ} {a m n : Contents} (w : Under bytes a m) →
      TakesMore r.x.run.input r.first bytes (w.records ++ r.w.round.records) r.a.reading b → DidFront r.x.run u m n →
      IsBrokenFrom r.x (state_of now) r.first r.a.reading b bytes a n
  part_broken b {n = n} w takes front = broken_off b takes w.taken.count (cut_more (cut_since (w.pending.part n front)) r.w.round.records)

  -- and the next round is read or not
  pub breaks_off : (b : Halves) (there : Spot) → SomeLeft r.here.left → SomeLeft there.left →
      Told r.a.reading.held (λ i. ReadsPast r.x.run.input r.here there r.w.round.number (input i) r.a.reading b.reading) →
      Moves r.m.writing.held b.writing.held (DidFront r.x.run u) →
      Told r.a.reading.held (λ i. Moves r.a.writing.held b.writing.held (Breaks r.x (state_of now) r.first r.a.reading b.reading (input i)))
  breaks_off b there some some_there past front =
      told_both r.a.reading.held _ _ _
      (λ i under told.
      moves_join r.a.writing.held r.m.writing.held b.writing.held (Between (input i)) (DidFront r.x.run u) _
      (λ a m n way put stood.
      let w : Under (input i) a m = way stood in
      part_broken b.reading w (takes_past there b.reading some some_there w told) put)
      under front)
      r.under past

  -- the last round is judged or not, and what it writes is put in part
  pub last_broken : (after : Option Contents) → SomeLeft r.here.left → Rises (is_cut r.w.round.ending) r.a.reading.lost r.m.reading.lost →
      Moves r.m.writing.held after (BreaksLast r.x.run u Well (steps_of made)) →
      Told r.a.reading.held (λ i. Moves r.a.writing.held after (Breaks r.x (state_of now) r.first r.a.reading r.m.reading (input i)))
  last_broken after some rises broke =
      told_by r.a.reading.held _ _
      (λ i under.
      moves_join r.a.writing.held r.m.writing.held after (Between (input i)) (BreaksLast r.x.run u Well (steps_of made)) _
      (λ a m n way part stood. by_part a m n (way stood) part) under broke) r.under where
        takes : {bytes : List ℕ} {a m : Contents} (w : Under bytes a m) →
            TakesMore r.x.run.input r.first bytes (w.records ++ r.w.round.records) r.a.reading r.m.reading
        takes w = takes_of r.w.round.ending r.a.reading r.m.reading some w.taken rises

        by_part : {bytes : List ℕ} (a m n : Contents) → Under bytes a m → BreaksLast r.x.run u Well (steps_of made) m n →
            IsBrokenFrom r.x (state_of now) r.first r.a.reading r.m.reading bytes a n
        by_part a m n w (inl front) = part_broken r.m.reading w (takes w) front
        by_part a m n w (inr (well, (between, did, front))) =
            broken_off r.m.reading (takes w) w.taken.count ((pending_more w.pending did well).part n front)

-- what was read behind a round, or not
pub read_past : (x : Setup) (before now : Spot) (number : ℕ) (a b : Readable) (round : Round) → HasRead x before now number a.held b.last round →
    Rises (is_cut round.ending) a.lost b.lost → Told a.held (λ i. ReadsPast x.run.input before now number (content i x.run.input) a b)
read_past x before now number a b round read rises =
    told_by a.held _ _ (λ i told. by_ending i told round.ending refl rises) read.told where
      by_ending : (i : Contents) → (before.stood (content i x.run.input) → IsNext x.run.input before now number (content i x.run.input) round b.last) →
          (e : Option Ending) → round.ending ≡ e → Rises (is_cut e) a.lost b.lost → ReadsPast x.run.input before now number (content i x.run.input) a b
      by_ending i told (Some ending.ReadFault) is rises =
          inr (rises, record { round = round; cut = is; numbered = read.in_hand.numbered; placed = read.placed; next = told })
      by_ending i told _ is rises = inl rises
