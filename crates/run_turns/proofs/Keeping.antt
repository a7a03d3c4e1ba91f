-- What each turn of a run keeps.
use Rattle.run_turns.proofs.Words.{◌≡◌, ◌⊎◌, ℕ, ◌+◌, ◌≤◌, List, [], ◌∷◌, ◌++◌, length, Option, None, Some, Bool, true, false, inl, inr, refl, sym, ◌∙◌, ap, arith}
use Rattle.run_turns.proofs.Words.{subst, append-nil, append_assoc, length-append, length-map, length-range_with_len, Contents, Told, Moves, content}
use Rattle.run_turns.proofs.Words.{AreasValue, AreWritten, Did, DidFront, Err, Fault, Filled, HasDrawn, HasEnded, HasFetched, HasFilled, HasPassedTurn}
use Rattle.run_turns.proofs.Words.{IsCutFrom, IsCutShort, IsInRange, IsPassed, Judged, Logged, Logs, OthersKept, PassesBy, Putting}
use Rattle.run_turns.proofs.Words.{EndsInRecords, PutsBy, PutsNothing, Readable, ReadsOf, Rec, Rises, RoundLaws, Setup, Spot, Step, Taking}
use Rattle.run_turns.proofs.Words.{TurnSeat, WrittenFiles, consecutive, has_failed, is_cut, rate_of, range_with_len, reads_of, read_well, round_log, lines_in}
use Rattle.run_turns.proofs.Words.{HasCounted, HasWritten, HoldsNothing, Ok, RunJob, all_asking, items_in, packets_in, outputs_of, logs_others, logs_spoiled, Part}
use Rattle.aftr_io.specs.declared.outside.Fault.TheVariants as fault
use Rattle.run_turns.specs.declared.turn.TurnSeat.TheVariants as seat
use Rattle.run_turns.proofs.Elements.{consecutive_count}
use Rattle.run_turns.proofs.EndLemmas.{SomeLeft}
use Rattle.run_turns.proofs.Moving.{moves_by, moves_join, told_all, told_both, told_by}
use Rattle.run_turns.proofs.JudgedTurns.{passed_reads}
use Rattle.run_turns.proofs.Reading.{Grows, IsTaken, TakesMore, fetched_grows, takes_front, takes_of}
use Rattle.run_turns.proofs.Rounding.{WholeTurn, asked_all, judged_turn, progress_of, range_behind, state_of}
use Rattle.run_turns.proofs.Stepping.{IsSince, RoundBetween, all_written, cut_more, cut_of_all, cut_since, part_written}

others_more : (run : RunJob) (a b d : Option Contents) → Moves a b (OthersKept run) → Moves b d (OthersKept run) → Moves a d (OthersKept run)
others_more run a b d first second = moves_join a b d _ _ _ (λ m n o u v name x y z. v name x y z ∙ u name x y z) first second

-- a count that rose as it did before
rises_from : {before middle : ℕ} (now : ℕ) (why : Fault) → middle ≡ before → Rises (has_failed {T = Unit} (Err why)) middle now →
    Rises (has_failed {T = Unit} (Err why)) before now
rises_from {before} {middle} now why same rises = subst (λ (n : ℕ). Rises (has_failed {T = Unit} (Err why)) n now) same rises

-- no call fails where memory is refused
rises_none : {before now : ℕ} (why : Fault) → why ≡ fault.OutOfMemory → now ≡ before → Rises (has_failed {T = Unit} (Err why)) before now
rises_none {before} {now} why is same = subst (λ (f : Fault). Rises (has_failed {T = Unit} (Err f)) before now) (sym is) same

-- a reading that went on without a fault
reads_well : {name : List ℕ} {a b : Readable} → ReadsOf false name a b → b ≡ a
reads_well {name} {a} {b} reads = read_well name (λ place. Unit {0}) a b reads

module _ {C : Type 0} (laws : RoundLaws) (x : Setup) (areas : AreasValue) (place : C → Spot) (some : (r : C) → SomeLeft (place r).left) (first : Spot)
    (a0 : Readable) (w0 : WrittenFiles) where
  abbrev draws_of : Taking C → List (ℕ × ℕ)
  draws_of s = s.dealer.seat.known.actor.draws

  abbrev points_of : Taking C → List ℕ
  points_of s = s.dealer.desk.known.points

  abbrev input : Contents → List ℕ
  input i = content i x.run.input

  -- these records were read, and those that stand ahead; no more were drawn
  pub record IsReadTo (bytes : List ℕ) (s : Taking C) (rs : List Rec) : Type 0 where
    pub few : length (draws_of s) ≤ length rs
    pub sound : s.refused ≡ false → IsTaken x place first bytes (s.number + length s.at.ahead) s.at (rs ++ s.at.ahead)
    pub cut : s.refused ≡ true → TakesMore x.run.input first bytes rs a0 s.at.files

  -- all of them are in the outputs
  pub record IsWrittenTo (bytes : List ℕ) (s : Taking C) (w : Putting) (reads : ℕ) (opened now : Contents) : Type 0 where
    pub records : List Rec
    pub read : IsReadTo bytes s records
    pub written : AreWritten x opened now (state_of areas s w reads) records

  -- some of them are
  pub record IsWrittenInPart (bytes : List ℕ) (s : Taking C) (w : Putting) (reads : ℕ) (opened now : Contents) : Type 0 where
    pub records : List Rec
    pub read : IsReadTo bytes s records
    pub part : IsCutFrom x (state_of areas s w reads) opened now records

  module _ (a b : Taking C) where
    drawn_on : {room turn : Filled} {more : Bool} (bytes : List ℕ) (rs : List Rec) (d : HasDrawn x place a b room turn more) → a.refused ≡ false → b.refused ≡ false →
        Grows x place first bytes a.number a.at b.at d.records → IsReadTo bytes a rs → IsReadTo bytes b (rs ++ turn.round.records)
    drawn_on {room} {turn} bytes rs d going still grows read =
        let long : length d.records ≡ length turn.round.records + length b.at.ahead =
        ap (λ (l : List Rec). length l) d.split ∙ length-append turn.round.records b.at.ahead in
        record {
          few =
              let more : length (draws_of b) ≡ length (draws_of a) + length (consecutive a.number (length turn.round.records) d.held.version) =
              ap (λ (l : List (ℕ × ℕ)). length l) d.draws ∙ length-append (draws_of a) (consecutive a.number (length turn.round.records) d.held.version) in
              omega (arith, read.few, more, consecutive_count a.number (length turn.round.records) d.held.version, length-append rs turn.round.records);
          sound = λ sound.
              subst (λ (n : ℕ). IsTaken x place first bytes n b.at ((rs ++ turn.round.records) ++ b.at.ahead)) (omega (arith, long, d.number))
              (subst (λ (l : List Rec). IsTaken x place first bytes (a.number + length d.records) b.at l)
              (ap (λ (l : List Rec). rs ++ l) d.split ∙ sym (append_assoc rs turn.round.records b.at.ahead)) (grows rs (read.sound going)));
          cut = λ refused. absurd (cc (refused, still));
        }

    ended_on : {room turn : Filled} {more : Bool} (bytes : List ℕ) (rs : List Rec) (d : HasEnded x place a b room turn more) → a.refused ≡ false → b.refused ≡ false →
        Grows x place first bytes a.number a.at b.at [] → IsReadTo bytes a rs → IsReadTo bytes b rs
    ended_on bytes rs d going still grows read = record {
      few = rw d.dealer read.few;
      sound = λ sound.
          subst (λ (l : List Rec). IsTaken x place first bytes (b.number + length l) b.at (rs ++ l)) (sym d.ahead)
          (subst (λ (n : ℕ). IsTaken x place first bytes n b.at (rs ++ [])) (omega (arith, d.number)) (grows rs (read.sound going)));
      cut = λ refused. absurd (cc (refused, still));
    }

    -- no read failed in what was read before, where the reading goes on
    pub reads_on : (records : List Rec) → ReadsOf (is_cut a.at.ending) x.run.input a0 a.at.files → HasFetched x place a.number a.at b.at records →
        ReadsOf (is_cut b.at.ending) x.run.input a0 b.at.files
    reads_on records reads (inl stood) = rw (stood.same_files, stood.same_ending) reads
    reads_on records reads (inr w) =
        let before : ReadsOf (is_cut None) x.run.input a0 a.at.files = rw w.not_ended at reads in
        rw w.ending_is (rw (reads_well before) at w.reads)

    unread_on : ReadsOf (is_cut a.at.ending) x.run.input a0 a.at.files → ReadsOf false x.run.input a.at.files b.at.files → b.at.ending ≡ a.at.ending →
        ReadsOf (is_cut b.at.ending) x.run.input a0 b.at.files
    unread_on reads well same = rw (same, reads_well well) reads

    -- whatever was read before, the records that there are
    pub takes_before : (bytes : List ℕ) (rs : List Rec) → ReadsOf (is_cut a.at.ending) x.run.input a0 a.at.files → IsReadTo bytes a rs → (r : Bool) → a.refused ≡ r →
        TakesMore x.run.input first bytes rs a0 a.at.files
    takes_before bytes rs reads read true is = read.cut is
    takes_before bytes rs reads read false is = takes_front x.run.input first bytes rs a.at.ahead a0 a.at.files (takes_of a.at.ending a0 a.at.files (some a.at.reader) (read.sound is) reads.lost)

    -- memory was refused: what was read is still known
    cut_on : {more : Bool} (h : Option Contents) → a.at.files.held ≡ h → (d : IsCutShort x place a b more) →
        ReadsOf (is_cut a.at.ending) x.run.input a0 a.at.files →
        Told h (λ i. (rs : List Rec) → IsReadTo (input i) a rs → (news : List Rec) × IsReadTo (input i) b (rs ++ news))
    cut_on h same d reads = by_taken d.taken where
      length_drawn : length (draws_of b) ≡ length (draws_of a) + length d.drawn
      length_drawn = ap (λ (l : List (ℕ × ℕ)). length l) d.draws ∙ length-append (draws_of a) d.drawn

      by_taken : ((ReadsOf false x.run.input a.at.files b.at.files × (b.at.ending ≡ a.at.ending)) × (d.drawn ≡ []))
          ⊎ ((a.refused ≡ false) × ((records : List Rec) × (HasFetched x place a.number a.at b.at records × (length d.drawn ≤ length records)))) →
          Told h (λ i. (rs : List Rec) → IsReadTo (input i) a rs → (news : List Rec) × IsReadTo (input i) b (rs ++ news))
      by_taken (inl unread) =
          told_all h _ (λ i rs read. (
            [],
            record {
              few =
                  omega (arith, read.few, length_drawn, ap (λ (l : List (ℕ × ℕ)). length l) unread.1, ap (λ (l : List Rec). length l) (append-nil rs));
              sound = λ sound. absurd (cc (sound, d.refused));
              cut = λ refused. rw (append-nil rs, reads_well unread.0.0) (takes_before (input i) rs reads read a.refused refl);
            },
          ))
      by_taken (inr (going, (records, (fetched, fewer)))) =
          told_by h _ _ (λ i grows rs read. (
            records,
            record {
              few = omega (arith, read.few, length_drawn, fewer, length-append rs records);
              sound = λ sound. absurd (cc (sound, d.refused));
              cut = λ refused. takes_of b.at.ending a0 b.at.files (some b.at.reader) (grows rs (read.sound going)) (reads_on records reads fetched).lost;
            },
          )) (fetched_grows x place first h a.number a.at b.at records same fetched)

  -- what the outputs hold, by whether the sink has ended
  abbrev pub Holds : Option Fault → Taking C → Putting → ℕ → Type 0
  Holds None s w reads =
      (s.refused ≡ false) × ((w.files.spoiled ≡ w0.spoiled) × (IsInRange x (progress_of s w) × Told a0.held (λ i. Moves w0.held w.files.held
      (λ o n. first.stood (input i) → IsWrittenTo (input i) s w reads o n))))
  Holds (Some why) s w reads =
      Rises (has_failed {T = Unit} (Err why)) w0.spoiled w.files.spoiled × Told a0.held (λ i. Moves w0.held w.files.held
      (λ o n. first.stood (input i) → IsWrittenInPart (input i) s w reads o n))

  -- the source and the sink behind some turns, and how much more the seats have read
  pub record Keeps (share0 reads0 : ℕ) (s : Taking C) (w : Putting) (reads : ℕ) (answer : Option Fault) : Type 0 where
    pub its_areas : s.dealer.areas.now ≡ areas
    pub seat_share : s.dealer.seat.known.share ≡ share0
    pub seat_reads : s.dealer.seat.known.reads ≡ reads0
    pub reading : ReadsOf (is_cut s.at.ending) x.run.input a0 s.at.files
    pub in_records : EndsInRecords s.at.ending
    pub others : Moves w0.held w.files.held (OthersKept x.run)
    pub rate : rate_of w.limit ≡ x.run.errors
    pub holds : Holds answer s w reads

  module _ (a b : Taking C) (v w : Putting) where
    since_by : {r k : ℕ} (drawn : List (ℕ × ℕ)) → draws_of b ≡ draws_of a ++ drawn → (news : List ℕ) → points_of b ≡ points_of a ++ news →
        IsSince (state_of areas a v r) (state_of areas b w k)
    since_by drawn draws news points = record { same_plan = refl; drawn = drawn; draws = draws; news = news; points = points }

    since_same : {r k : ℕ} → b.dealer ≡ a.dealer → IsSince (state_of areas a v r) (state_of areas b w k)
    since_same same =
        since_by [] (ap (λ (d : _). d.seat.known.actor.draws) same ∙ sym (append-nil (draws_of a))) []
        (ap (λ (d : _). d.desk.known.points) same ∙ sym (append-nil (points_of a)))

    abbrev Moved : Contents → Type 0
    Moved i = (rs : List Rec) → IsReadTo (input i) a rs → (news : List Rec) × IsReadTo (input i) b (rs ++ news)

    -- whatever became of its round, the source goes on from what was read before
    moves_on : {room turn : Filled} {more : Bool} (f : HasFilled x place a b room turn more) → ReadsOf (is_cut a.at.ending) x.run.input a0 a.at.files →
        Told a0.held (λ i. Moved i)
    moves_on {room} {turn} {more} f reads = by_refused turn.refused refl where
      same : a.at.files.held ≡ a0.held
      same = reads.held

      by_whole : (a.refused ≡ false) × ((b.refused ≡ false) × (HasEnded x place a b room turn more ⊎ HasDrawn x place a b room turn more)) → Told a0.held (λ i. Moved i)
      by_whole (going, (still, inl ended)) =
          told_by a0.held _ _ (λ i grows rs read. ([], rw (append-nil rs) (ended_on a b (input i) rs ended going still grows read)))
          (fetched_grows x place first a0.held a.number a.at b.at [] same ended.fetched)
      by_whole (going, (still, inr drawn)) =
          told_by a0.held _ _ (λ i grows rs read. (turn.round.records, drawn_on a b (input i) rs drawn going still grows read))
          (fetched_grows x place first a0.held a.number a.at b.at drawn.records same drawn.fetched)

      by_refused : (r : Bool) → turn.refused ≡ r → Told a0.held (λ i. Moved i)
      by_refused true is = cut_on a b a0.held same (f.cut is) reads
      by_refused false is = by_whole (f.whole is)

    since_of : {room turn : Filled} {more : Bool} {r k : ℕ} → HasFilled x place a b room turn more → IsSince (state_of areas a v r) (state_of areas b w k)
    since_of {room} {turn} {more} {r} {k} f = by_refused turn.refused refl where
      by_whole : (a.refused ≡ false) × ((b.refused ≡ false) × (HasEnded x place a b room turn more ⊎ HasDrawn x place a b room turn more)) →
          IsSince (state_of areas a v r) (state_of areas b w k)
      by_whole (going, (still, inl ended)) = since_same ended.dealer
      by_whole (going, (still, inr drawn)) =
          since_by (consecutive a.number (length turn.round.records) drawn.held.version) drawn.draws drawn.news drawn.new_lines.points_are

      by_refused : (q : Bool) → turn.refused ≡ q → IsSince (state_of areas a v r) (state_of areas b w k)
      by_refused true is = since_by (f.cut is).drawn (f.cut is).draws (f.cut is).points.news (f.cut is).points.points
      by_refused false is = by_whole (f.whole is)

    reading_on : {room turn : Filled} {more : Bool} → HasFilled x place a b room turn more → ReadsOf (is_cut a.at.ending) x.run.input a0 a.at.files →
        ReadsOf (is_cut b.at.ending) x.run.input a0 b.at.files
    reading_on {room} {turn} {more} f reads = by_refused turn.refused refl where
      by_taken : {drawn : List (ℕ × ℕ)} → ((ReadsOf false x.run.input a.at.files b.at.files × (b.at.ending ≡ a.at.ending)) × (drawn ≡ []))
          ⊎ ((a.refused ≡ false) × ((records : List Rec) × (HasFetched x place a.number a.at b.at records × (length drawn ≤ length records)))) →
          ReadsOf (is_cut b.at.ending) x.run.input a0 b.at.files
      by_taken (inl unread) = unread_on a b reads unread.0.0 unread.0.1
      by_taken (inr (going, (records, (fetched, fewer)))) = reads_on a b records reads fetched

      by_whole : (a.refused ≡ false) × ((b.refused ≡ false) × (HasEnded x place a b room turn more ⊎ HasDrawn x place a b room turn more)) →
          ReadsOf (is_cut b.at.ending) x.run.input a0 b.at.files
      by_whole (going, (still, inl ended)) = reads_on a b [] reads ended.fetched
      by_whole (going, (still, inr drawn)) = reads_on a b drawn.records reads drawn.fetched

      by_refused : (q : Bool) → turn.refused ≡ q → ReadsOf (is_cut b.at.ending) x.run.input a0 b.at.files
      by_refused true is = by_taken (f.cut is).taken
      by_refused false is = by_whole (f.whole is)

    ending_on : {room turn : Filled} {more : Bool} → HasFilled x place a b room turn more → EndsInRecords a.at.ending → EndsInRecords b.at.ending
    ending_on {room} {turn} {more} f is_of = by_refused turn.refused refl where
      by_fetched : {records : List Rec} → HasFetched x place a.number a.at b.at records → EndsInRecords b.at.ending
      by_fetched (inl stood) = rw stood.same_ending is_of
      by_fetched (inr w) = rw w.ending_is w.read.in_hand.in_records

      by_taken : {drawn : List (ℕ × ℕ)} → ((ReadsOf false x.run.input a.at.files b.at.files × (b.at.ending ≡ a.at.ending)) × (drawn ≡ []))
          ⊎ ((a.refused ≡ false) × ((records : List Rec) × (HasFetched x place a.number a.at b.at records × (length drawn ≤ length records)))) →
          EndsInRecords b.at.ending
      by_taken (inl unread) = rw unread.0.1 is_of
      by_taken (inr (going, (records, (fetched, fewer)))) = by_fetched fetched

      by_whole : (a.refused ≡ false) × ((b.refused ≡ false) × (HasEnded x place a b room turn more ⊎ HasDrawn x place a b room turn more)) →
          EndsInRecords b.at.ending
      by_whole (going, (still, inl ended)) = by_fetched ended.fetched
      by_whole (going, (still, inr drawn)) = by_fetched drawn.fetched

      by_refused : (r : Bool) → turn.refused ≡ r → EndsInRecords b.at.ending
      by_refused true is = by_taken (f.cut is).taken
      by_refused false is = by_whole (f.whole is)

    areas_on : {room turn : Filled} {more : Bool} → HasFilled x place a b room turn more → b.dealer.areas.now ≡ a.dealer.areas.now
    areas_on {room} {turn} {more} f = by_refused turn.refused refl where
      by_whole : (a.refused ≡ false) × ((b.refused ≡ false) × (HasEnded x place a b room turn more ⊎ HasDrawn x place a b room turn more)) →
          b.dealer.areas.now ≡ a.dealer.areas.now
      by_whole (going, (still, inl ended)) = ap (λ (d : _). d.areas.now) ended.dealer
      by_whole (going, (still, inr drawn)) = ap (λ (k : _). k.now) drawn.same_areas

      by_refused : (q : Bool) → turn.refused ≡ q → b.dealer.areas.now ≡ a.dealer.areas.now
      by_refused true is = ap (λ (k : _). k.now) (f.cut is).same_areas
      by_refused false is = by_whole (f.whole is)

    -- nothing more is in the outputs
    cut_here : {r k : ℕ} → IsSince (state_of areas a v r) (state_of areas b w k) → Told a0.held (λ i. Moved i) → w.files ≡ v.files →
        Told a0.held (λ i. Moves w0.held v.files.held (λ o n. first.stood (input i) → IsWrittenTo (input i) a v r o n)) →
        Told a0.held (λ i. Moves w0.held w.files.held (λ o n. first.stood (input i) → IsWrittenInPart (input i) b w k o n))
    cut_here since moved same step =
        rw same (told_both a0.held _ _ _ (λ i go held. moves_by w0.held v.files.held _ _ (λ o n all stood.
        let it = all stood in
        let more = go it.records it.read in
        record { records = it.records ++ more.0; read = more.1; part = cut_more (cut_since since (cut_of_all it.written)) more.0 }) held) moved step)

    still_cut : {r k : ℕ} → IsSince (state_of areas a v r) (state_of areas b w k) → Told a0.held (λ i. Moved i) → w.files ≡ v.files →
        Told a0.held (λ i. Moves w0.held v.files.held (λ o n. first.stood (input i) → IsWrittenInPart (input i) a v r o n)) →
        Told a0.held (λ i. Moves w0.held w.files.held (λ o n. first.stood (input i) → IsWrittenInPart (input i) b w k o n))
    still_cut since moved same step =
        rw same (told_both a0.held _ _ _ (λ i go held. moves_by w0.held v.files.held _ _ (λ o n part stood.
        let it = part stood in
        let more = go it.records it.read in
        record { records = it.records ++ more.0; read = more.1; part = cut_more (cut_since since it.part) more.0 }) held) moved step)

    -- a round was drawn, judged and counted behind what is written
    module _ {room turn : Filled} {more : Bool} {part : Part} {reads : ℕ} (d : HasDrawn x place a b room turn more) (its : a.dealer.areas.now ≡ areas)
        (range : IsInRange x (progress_of a v)) (it : IsPassed x v.limit w.limit turn.start turn.round d.held part reads)
        (counted : HasCounted part v.totals w.totals) (rate : rate_of w.limit ≡ rate_of v.limit)
        (going : a.refused ≡ false) (still : b.refused ≡ false) (read : ReadsOf (is_cut a.at.ending) x.run.input a0 a.at.files) (before : ℕ) where
      abbrev log_of : List Step
      log_of = round_log turn.versions (packets_in (part ∷ [])) (lines_in (part ∷ []))

      abbrev pub after : ℕ
      after = before + all_asking (items_in turn.round.entries)

      abbrev whole_turn : WholeTurn C
      whole_turn = record {
        laws = laws;
        x = x;
        place = place;
        areas = areas;
        a = a;
        b = b;
        room = room;
        turn = turn;
        more = more;
        its_areas = its;
        drawn = d;
        v = v;
        w = w;
        range = range;
        part = part;
        reads = reads;
        it = it;
        counted = counted;
        rate = rate;
        before = before;
      }

      abbrev between : RoundBetween
      between = record {
        laws = laws;
        x = x;
        p = state_of areas a v before;
        q = state_of areas b w (before + all_asking (items_in turn.round.entries));
        since = since_by (consecutive a.number (length turn.round.records) d.held.version) d.draws d.news d.new_lines.points_are;
        records = turn.round.records;
        versions = turn.versions;
        part = part;
        judged = judged_turn whole_turn;
      }

      grows : Told a0.held (λ i. Grows x place first (input i) a.number a.at b.at d.records)
      grows = fetched_grows x place first a0.held a.number a.at b.at d.records read.held d.fetched

      pub written_on : Moves v.files.held w.files.held (Did x.run log_of) →
          Told a0.held (λ i. Moves w0.held v.files.held (λ o n. first.stood (input i) → IsWrittenTo (input i) a v before o n)) →
          Told a0.held (λ i. Moves w0.held w.files.held (λ o n. first.stood (input i) → IsWrittenTo (input i) b w after o n))
      written_on did step =
          told_both a0.held _ _ _ (λ i grown held. moves_join w0.held v.files.held w.files.held _ (Did x.run log_of) _ (λ o n q all done stood.
          let here = all stood in
          record {
            records = here.records ++ turn.round.records;
            read = drawn_on a b (input i) here.records d going still grown here.read;
            written = all_written between here.written done;
          }) held did) grows step

      pub part_on : Moves v.files.held w.files.held (DidFront x.run log_of) →
          Told a0.held (λ i. Moves w0.held v.files.held (λ o n. first.stood (input i) → IsWrittenTo (input i) a v before o n)) →
          Told a0.held (λ i. Moves w0.held w.files.held (λ o n. first.stood (input i) → IsWrittenInPart (input i) b w after o n))
      part_on front step =
          told_both a0.held _ _ _ (λ i grown held. moves_join w0.held v.files.held w.files.held _ (DidFront x.run log_of) _ (λ o n q all done stood.
          let here = all stood in
          record {
            records = here.records ++ turn.round.records;
            read = drawn_on a b (input i) here.records d going still grown here.read;
            part = part_written between here.written done;
          }) held front) grows step

      pub range_on : IsInRange x (progress_of b w)
      range_on = range_behind whole_turn

      pub gained : d.held.known.reads + all_asking (items_in turn.round.entries) ≤ reads
      gained = asked_all laws it

  -- the sink has ended: nothing more is put
  pub step_over : {share0 reads0 reads : ℕ} {a b : Taking C} {v : Putting} {why : Fault} {room turn : Filled} {more : Bool} →
      Keeps share0 reads0 a v reads (Some why) → HasFilled x place a b room turn more → Keeps share0 reads0 b v reads (Some why)
  step_over {share0} {reads0} {reads} {a} {b} {v} {why} {room} {turn} {more} keeps f = record {
    its_areas = areas_on a b v v f ∙ keeps.its_areas;
    seat_share = f.seat_share ∙ keeps.seat_share;
    seat_reads = f.seat_reads ∙ keeps.seat_reads;
    reading = reading_on a b v v f keeps.reading;
    in_records = ending_on a b v v f keeps.in_records;
    others = keeps.others;
    rate = keeps.rate;
    holds = (keeps.holds.0, still_cut a b v v (since_of a b v v f) (moves_on a b v v f keeps.reading) refl keeps.holds.1);
  }

  -- The sink takes the round. `t` is the round as the source left it, and `m` as it was when it was put.
  module _ {share0 reads0 reads : ℕ} {a b : Taking C} {v : Putting} (w : Putting) {room turn : Filled} {more : Bool} (keeps : Keeps share0 reads0 a v reads None)
      (f : HasFilled x place a b room turn more) {t m : Judged}
      (is_round : (t.start ≡ turn.start) × ((t.round ≡ turn.round) × ((t.seat ≡ turn.seat) × ((t.versions ≡ turn.versions) × (t.refused ≡ turn.refused)))))
      (passed : HasPassedTurn x areas v.limit w.limit t m) (rate : rate_of w.limit ≡ rate_of v.limit) where
    -- what is kept, and how many words the round's seat read at least
    abbrev pub Behind : Option Fault → Type 0
    Behind answer = (gain : ℕ) × Keeps share0 reads0 b w (reads + gain) answer × (reads_of turn.seat + gain ≤ reads_of m.seat)

    abbrev Whole : Type 0
    Whole = (a.refused ≡ false) × ((b.refused ≡ false) × (HasEnded x place a b room turn more ⊎ HasDrawn x place a b room turn more))

    kept : (gain : ℕ) (answer : Option Fault) → Moves w0.held w.files.held (OthersKept x.run) → Holds answer b w (reads + gain) → Keeps share0 reads0 b w (reads + gain) answer
    kept gain answer others holds = record {
      its_areas = areas_on a b v w f ∙ keeps.its_areas;
      seat_share = f.seat_share ∙ keeps.seat_share;
      seat_reads = f.seat_reads ∙ keeps.seat_reads;
      reading = reading_on a b v w f keeps.reading;
      in_records = ending_on a b v w f keeps.in_records;
      others = others;
      rate = rate ∙ keeps.rate;
      holds = holds;
    }

    read_none : reads_of turn.seat + 0 ≤ reads_of m.seat
    read_none =
        omega (arith, ap (λ (s : TurnSeat). reads_of s) is_round.1.1.0, passed_reads passed)

    -- the round is whole if it was put
    whole : m.refused ≡ false → Whole
    whole is = by_refused turn.refused refl where
      by_refused : (r : Bool) → turn.refused ≡ r → Whole
      by_refused false is_not = f.whole is_not
      by_refused true was = absurd (cc (passed.refuses (is_round.1.1.1.1 ∙ was), is))

    same_records : m.round ≡ turn.round
    same_records = passed.round ∙ is_round.1.0

    -- the records of a round that has some were judged and counted
    module _ (d : HasDrawn x place a b room turn more) (still : b.refused ≡ false) (is : m.refused ≡ false) (counted : HasCounted m.part v.totals w.totals) where
      going : a.refused ≡ false
      going = keeps.holds.0

      held_passed : PassesBy x (seat.Held d.held) v.limit w.limit t m
      held_passed = rw (is_round.1.1.0 ∙ d.seat) at passed.by_seat

      it : IsPassed x v.limit w.limit turn.start turn.round d.held m.part (reads_of m.seat)
      it = rw (is_round.0, is_round.1.0) at (held_passed.1 is).1

      abbrev more_reads : ℕ
      more_reads = all_asking (items_in turn.round.entries)

      gained_by : reads_of turn.seat + all_asking (items_in turn.round.entries) ≤ reads_of m.seat
      gained_by =
          omega (
            arith,
            ap (λ (s : TurnSeat). reads_of s) d.seat,
            gained a b v w d keeps.its_areas keeps.holds.1.1.0 it counted rate going still keeps.reading reads,
          )

      same_log : (round_log m.versions (packets_in (m.part ∷ [])) (lines_in (m.part ∷ []))) ≡ round_log turn.versions (packets_in (m.part ∷ [])) (lines_in (m.part ∷ []))
      same_log = ap (λ (l : List ℕ). round_log l (packets_in (m.part ∷ [])) (lines_in (m.part ∷ []))) (passed.versions ∙ is_round.1.1.1.0)

      put_whole : Logged (outputs_of x.run) false (round_log m.versions (packets_in (m.part ∷ [])) (lines_in (m.part ∷ []))) v.files w.files → Behind None
      put_whole logged =
          let logs : Logs (outputs_of x.run) (Ok tt) (round_log m.versions (packets_in (m.part ∷ [])) (lines_in (m.part ∷ []))) v.files w.files = logged in (
            all_asking (items_in turn.round.entries),
            kept (all_asking (items_in turn.round.entries)) None
                (others_more x.run w0.held v.files.held w.files.held keeps.others (logs_others (outputs_of x.run) (Ok tt) _ v.files w.files logs)) (
                  still,
                  (
                    logged.spoiled ∙ keeps.holds.1.0,
                    (
                      range_on a b v w d keeps.its_areas keeps.holds.1.1.0 it counted rate going still keeps.reading reads,
                      written_on a b v w d keeps.its_areas keeps.holds.1.1.0 it counted rate going still keeps.reading reads
                          (rw same_log at logged.held) keeps.holds.1.1.1,
                    ),
                  ),
                ),
            gained_by,
          )

      put_part : (why : Fault) → Logs (outputs_of x.run) (Err why) (round_log m.versions (packets_in (m.part ∷ [])) (lines_in (m.part ∷ []))) v.files w.files →
          Behind (Some why)
      put_part why logs = (
        all_asking (items_in turn.round.entries),
        kept (all_asking (items_in turn.round.entries)) (Some why)
            (others_more x.run w0.held v.files.held w.files.held keeps.others (logs_others (outputs_of x.run) (Err why) _ v.files w.files logs)) (
              rises_from w.files.spoiled why keeps.holds.1.0 (logs_spoiled (outputs_of x.run) (Err why) _ v.files w.files logs),
              part_on a b v w d keeps.its_areas keeps.holds.1.1.0 it counted rate going still keeps.reading reads
                  (moves_by v.files.held w.files.held _ _ (λ k n front. rw same_log at front)
                  (moves_by v.files.held w.files.held _ (DidFront x.run (round_log m.versions (packets_in (m.part ∷ [])) (lines_in (m.part ∷ []))))
                  (λ k n did. (logs.0, did)) logs.1.held)) keeps.holds.1.1.1,
            ),
        gained_by,
      )

    -- nothing of the round is put
    put_none : (why : Fault) → why ≡ fault.OutOfMemory → w.files ≡ v.files → Behind (Some why)
    put_none why is same = (
      0,
      kept 0 (Some why) (rw same keeps.others)
          (rises_none why is (rw same keeps.holds.1.0), cut_here a b v w (since_of a b v w f) (moves_on a b v w f keeps.reading) same keeps.holds.1.1.1),
      read_none,
    )

    -- the records have ended
    put_end : HasEnded x place a b room turn more → b.refused ≡ false → PutsNothing x v w → Behind None
    put_end ended still nothing = (
      0,
      kept 0 None (rw nothing.files keeps.others) (
        still,
        (
          rw nothing.files keeps.holds.1.0,
          (
            range_end ended nothing,
            subst (λ (f : WrittenFiles). Told a0.held (λ i. Moves w0.held f.held (λ o n. first.stood (input i) → IsWrittenTo (input i) b w (reads + 0) o n)))
                (sym nothing.files) (told_both a0.held _ _ _ (λ i grows held. moves_by w0.held v.files.held _ _ (λ o n all stood. written_end i ended still (all stood) grows) held)
                (fetched_grows x place first a0.held a.number a.at b.at [] keeps.reading.held ended.fetched) keeps.holds.1.1.1),
          ),
        ),
      ),
      read_none,
    ) where
      range_end : HasEnded x place a b room turn more → PutsNothing x v w → IsInRange x (progress_of b w)
      range_end ended nothing = record {
        number = rw ended.number keeps.holds.1.1.0.number;
        staged = rw (ended.stage, ended.number) keeps.holds.1.1.0.staged;
        totals = rw (nothing.totals, ended.number) keeps.holds.1.1.0.totals;
        rate = rate ∙ keeps.rate;
        printed = rw ended.printed keeps.holds.1.1.0.printed;
      }

      written_end : (i : Contents) {o n : Contents} → HasEnded x place a b room turn more → b.refused ≡ false → IsWrittenTo (input i) a v reads o n →
          Grows x place first (input i) a.number a.at b.at [] → IsWrittenTo (input i) b w (reads + 0) o n
      written_end i {o} {n} ended still here grows = record {
        records = here.records;
        read = ended_on a b (input i) here.records ended keeps.holds.0 still grows here.read;
        written = λ c suits.
            let same : reads ≡ reads + 0 = omega arith in
            subst (λ (k : ℕ). HasWritten x c o n (state_of areas b w k) here.records) same
            (rw (ended.stage, ended.number, ended.printed, ended.dealer, same_limit ended, nothing.totals) (here.written c (rw ended.dealer at suits)));
      } where
        same_limit : HasEnded x place a b room turn more → w.limit ≡ v.limit
        same_limit ended =
            by_nothing turn.seat ended.nothing (subst (λ (s : TurnSeat). PassesBy x s v.limit w.limit t m) is_round.1.1.0 passed.by_seat) where
              by_nothing : (s : TurnSeat) → HoldsNothing s → PassesBy x s v.limit w.limit t m → w.limit ≡ v.limit
              by_nothing (seat.Free free) nothing by = by.0
              by_nothing (seat.Held held) nothing by = absurd nothing
              by_nothing seat.Away nothing by = by.0

    -- by the sink's answer
    pub step_put : (answer : Option Fault) → PutsBy x answer v w m → Behind answer
    step_put None (is, inl (empty, nothing)) = by_whole (whole is) where
      by_whole : Whole → Behind None
      by_whole (going, (still, inl ended)) = put_end ended still nothing
      by_whole (going, (still, inr d)) = absurd (d.some (rw same_records at empty))
    step_put None (is, inr (some_records, put)) = by_whole (whole is) where
      by_whole : Whole → Behind None
      by_whole (going, (still, inl ended)) = absurd (some_records (rw same_records ended.none))
      by_whole (going, (still, inr d)) = put_whole d still is put.totals put.log
    step_put (Some why) (inl (is, same)) = put_none why is same
    step_put (Some why) (inr (is, (some_records, (counted, logs)))) = by_whole (whole is) where
      by_whole : Whole → Behind (Some why)
      by_whole (going, (still, inl ended)) = absurd (some_records (rw same_records ended.none))
      by_whole (going, (still, inr d)) = put_part d still is counted why logs
