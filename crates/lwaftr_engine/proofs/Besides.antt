-- Rounds that two sides took, put together.
use Rattle.std.specs.Prelude.{IsOk}
use Rattle.lwaftr_engine.proofs.Words.{Bool, Breaks, CanGoOn, Ending, Err, Fault, HasRead, IfOk, IsAtStart, IsInHand, IsNothing, IsOnDuty, KeepsRest}
use Rattle.lwaftr_engine.proofs.Words.{List, Moves, None, Ok, OthersKept, Halves, Pending, PutsAndReads, ReadsOf, Result, Rises, Round, Router, RunLaws, Setup}
use Rattle.lwaftr_engine.proofs.Words.{Spot, StandsBetween, StaysOnDuty, Step, WentWell, [], ap, arith, drop, has_failed, is_cut, length, length-append, refl}
use Rattle.lwaftr_engine.proofs.Words.{state_of, steps_of, subst, sym, ℕ, ◌++◌, ◌∙◌, ◌∷◌, ◌≡◌, Told, WrittenFiles, content, halves}
use Rattle.aftr_io.specs.declared.outside.Fault.TheVariants as fault
use Rattle.lwaftr_engine.specs.Beside.{Asks, Exchange, Go, HaveBroken, HaveFetched, HaveJudged, HaveTaken, Standing, assignments, reached, reached_from}
use Rattle.lwaftr_engine.specs.Beside.{reports}
use Rattle.lwaftr_engine.specs.declared.beside.Assignment.{Assignment}
use Rattle.lwaftr_engine.specs.declared.beside.Report.{Report}
use Rattle.lwaftr_engine.proofs.Adding.{can_begin, goes_on, others_more, others_same, reads_on}
use Rattle.lwaftr_engine.proofs.EndLemmas.{SomeLeft}
use Rattle.lwaftr_engine.proofs.Exits.{fails_as}
use Rattle.lwaftr_engine.proofs.ReadLemmas.{rest_before, rest_read}
use Rattle.lwaftr_engine.proofs.UnderwayLemmas.{InRounds, begin_rounds, breaks_off, steps_on}

reached_last : (number : ℕ) (before : List Assignment) (a : Assignment) → reached_from number (before ++ a ∷ []) ≡ a.round.number
reached_last number [] a = refl
reached_last number (b ∷ later) a = reached_last b.round.number later a

head_of : {X : Type 0} → X → List X → X
head_of x [] = x
head_of x (y ∷ ys) = y

-- what was asked and what came back tell the exchanges
same_snoc : {X : Type 0} (xs ys : List X) (x y : X) → xs ++ x ∷ [] ≡ ys ++ y ∷ [] → (xs ≡ ys) × (x ≡ y)
unfolding head_of
same_snoc [] [] x y same = (refl, ap (λ (l : List _). head_of x l) same)
same_snoc [] (b ∷ ys) x y same = absurd (omega (arith, ap (λ (l : List _). length l) same, length-append ys (y ∷ [])))
same_snoc (a ∷ xs) [] x y same = absurd (omega (arith, ap (λ (l : List _). length l) same, length-append xs (x ∷ [])))
same_snoc (a ∷ xs) (b ∷ ys) x y same =
    let rest = same_snoc xs ys x y (ap (λ (l : List _). drop 1 l) same) in
    let first : a ≡ b = ap (λ (l : List _). head_of a l) same in
    ((λ i. first i ∷ rest.0 i), rest.1)

same_exchanges : (es fs : List Exchange) → assignments es ≡ assignments fs → reports es ≡ reports fs → es ≡ fs
same_exchanges [] [] asked told = refl
same_exchanges [] (f ∷ fs) asked told =
    absurd (omega (arith, ap (λ (l : List Assignment). length l) asked, length-append (assignments fs) (f.assignment ∷ [])))
same_exchanges (e ∷ es) [] asked told =
    absurd (omega (arith, ap (λ (l : List Assignment). length l) asked, length-append (assignments es) (e.assignment ∷ [])))
same_exchanges (e ∷ es) (f ∷ fs) asked told =
    let a = same_snoc (assignments es) (assignments fs) e.assignment f.assignment asked in
    let b = same_snoc (reports es) (reports fs) e.report f.report told in
    let rest = same_exchanges es fs a.0 b.0 in
    λ i. record { assignment = a.1 i; report = b.1 i } ∷ rest i

pub if_ok : {T E P : Type 0} (r : Result T E) → IsOk r → IfOk r (λ _. P) → P
if_ok (Ok x) is p = p
if_ok (Err why) is p = absurd (cc is)

-- as many came back as went over
pub as_many : (es : List Exchange) → length (reports es) ≡ length (assignments es)
as_many [] = refl
as_many (e ∷ es) =
    omega (arith, as_many es, length-append (reports es) (e.report ∷ []), length-append (assignments es) (e.assignment ∷ []))

-- a round that went over with this room, and what came back
abbrev pub exchange : Round → Pending → Report → Exchange
exchange round room report = record { assignment = record { round = round; room = room }; report = report }

-- an exchange more
module _ (es : List Exchange) (e : Exchange) where
  pub asked_more : {before now : List Assignment} → before ≡ assignments es → now ≡ before ++ e.assignment ∷ [] → now ≡ assignments (e ∷ es)
  asked_more are more = more ∙ ap (λ (l : List Assignment). l ++ e.assignment ∷ []) are

  pub heard_more : {before now : List Report} → before ≡ reports es → now ≡ before ++ e.report ∷ [] → now ≡ reports (e ∷ es)
  heard_more are more = more ∙ ap (λ (l : List Report). l ++ e.report ∷ []) are

  pub reached_more : {now : List Assignment} → now ≡ assignments (e ∷ es) → reached now ≡ e.assignment.round.number
  reached_more are = ap (λ (l : List Assignment). reached l) are ∙ reached_last 0 (assignments es) e.assignment

-- where the other side had no memory
pub in_vain : {x : Setup} {u : List Step} {number : ℕ} {before now : Spot} {R : ℕ → Type 0} {a b : Halves} {round : Round} →
    PutsAndReads x u number before now R a b (Ok round) → PutsAndReads x u number before now R a b (Err fault.OutOfMemory)
in_vain did = record { well = tt; part = did.part; past = did.past; rest = did.rest; spoiled = did.spoiled }

-- what rounds began with, and how the places of a reader are told
module _ {C : Type 0} (x : Setup) (place : C → Spot) (Ready : C → ℕ → Type 0) (first : Spot) (a : Halves) (began : Router) where
  -- what is known between two rounds
  pub record IsGoing (now : Standing C) (r : Router) : Type 0 where
    pub went : Told a.reading.held (λ i. Moves a.writing.held now.files.writing.held
        (StandsBetween x (state_of r) (steps_of now.pending) first (place now.reader) now.round now.files.reading.last (content i x.run.input)))
    pub can : CanGoOn x r.shift r.progress
    pub ready : Ready now.reader now.round.number
    pub in_hand : IsInHand r.progress.number now.round
    pub same_areas : r.shift.areas ≡ began.shift.areas
    pub others : Moves a.writing.held now.files.writing.held (OthersKept x.run)
    pub reads : ReadsOf (is_cut now.round.ending) x.run.input a.reading now.files.reading
    pub spoiled : now.files.writing.spoiled ≡ a.writing.spoiled

  -- before the first round is judged
  pub at_first : IsAtStart x began → (now : Standing C) → IsNothing now.pending → now.files.writing ≡ a.writing →
      HasRead x first (place now.reader) began.progress.number a.reading.held now.files.reading.last now.round → Ready now.reader now.round.number →
      ReadsOf (is_cut now.round.ending) x.run.input a.reading now.files.reading → IsGoing now began
  at_first start now nothing same read ready reads =
      let held = ap (λ (w : WrittenFiles). w.held) same in
      record {
        went = begin_rounds x start first (place now.reader) now.round now.pending nothing a.reading.held a.writing.held now.files.writing.held held
            now.files.reading.last read;
        can = can_begin began start;
        ready = ready;
        in_hand = read.in_hand;
        same_areas = refl;
        others = others_same x.run a.writing.held now.files.writing.held held;
        reads = reads;
        spoiled = ap (λ (w : WrittenFiles). w.spoiled) same;
      }

-- rounds were broken off
pub record IsBroken (x : Setup) (first : Spot) (a : Halves) (began r : Router) (files : Halves) (failed : Bool) : Type 0 where
  pub broken : Told a.reading.held (λ i. Moves a.writing.held files.writing.held
      (Breaks x (state_of r) first a.reading files.reading (content i x.run.input)))
  pub rest : KeepsRest x.run a files
  pub areas : r.shift.areas ≡ began.shift.areas
  pub duty : IsOnDuty r.shift.areas.plan r.shift
  pub spoiled : Rises failed a.writing.spoiled files.writing.spoiled

module _ (x : Setup) (laws : RunLaws) {C : Type 0} {place : C → Spot} {Ready : C → ℕ → Type 0} {first : Spot} {a : Halves} {began : Router} where
  -- a round between the one that is not written yet and the one that is read
  abbrev pub under_way : {now : Standing C} {r : Router} → IsGoing x place Ready first a began now r → InRounds
  under_way {now} {r} known = record {
    laws = laws;
    x = x;
    first = first;
    here = place now.reader;
    w = record { round = now.round; pending = now.pending };
    before = r;
    a = a;
    m = now.files;
    under = known.went;
  }

  -- what was kept till then is kept behind writing
  pub still_kept : {now : Standing C} {r : Router} → IsGoing x place Ready first a began now r → (w : WrittenFiles) →
      Moves now.files.writing.held w.held (OthersKept x.run) → KeepsRest x.run a (halves now.files.reading w)
  still_kept {now} known w others =
      rest_before x.run a now.files.reading now.files.writing w (rest_read x.run (is_cut now.round.ending) a now.files known.others known.reads) others

  -- a round more went well
  pub goes : {before next : Standing C} {r now : Router} → IsGoing x place Ready first a began before r → before.round.ending ≡ None →
      StaysOnDuty r.shift now.shift before.round.number → WentWell x r now before.round next.pending →
      PutsAndReads x (steps_of before.pending) before.round.number (place before.reader) (place next.reader) (Ready next.reader) before.files next.files
      (Ok next.round) → IsGoing x place Ready first a began next now
  goes {before} {next} {r} {now} known going duty well did =
      let on = reads_on before.round.ending going x.run.input a.reading before.files.reading known.reads in
      record {
        went = steps_on (under_way known) now next.pending duty next.files (place next.reader) well (rw on at did.well.read) did.well.wrote;
        can = goes_on r.shift now duty known.can well.after;
        ready = did.well.ready;
        in_hand = rw well.number did.well.read.in_hand;
        same_areas = duty.areas ∙ known.same_areas;
        others = others_more x.run a.writing.held before.files.writing.held next.files.writing.held known.others did.rest.others;
        reads = rw on at did.well.reads;
        spoiled = did.spoiled ∙ known.spoiled;
      }

  -- a round could not be judged, the one before it not be written, or the next one not be read
  pub fails : {before : Standing C} {r : Router} → IsGoing x place Ready first a began before r → before.round.ending ≡ None → (now : Router) →
      StaysOnDuty r.shift now.shift before.round.number → (files : Halves) (reader : C) (fault : Fault) → ((c : C) → SomeLeft (place c).left) →
      PutsAndReads x (steps_of before.pending) before.round.number (place before.reader) (place reader) (Ready reader) before.files files (Err fault) →
      IsBroken x first a began now files (has_failed {T = Ending} (Err fault))
  fails {before} known going now duty files reader fault some did =
      let on = reads_on before.round.ending going x.run.input a.reading before.files.reading known.reads in
      record {
        broken = breaks_off (under_way known) now before.pending duty files (place reader) (some before.reader) (some reader) (rw on at did.past) did.part;
        rest = record {
          inputs = rw on at did.rest.inputs;
          others = others_more x.run a.writing.held before.files.writing.held files.writing.held known.others did.rest.others;
          capture_read = rw on at did.rest.capture_read;
        };
        areas = duty.areas ∙ known.same_areas;
        duty = duty.duty;
        spoiled = fails_as Round Ending a.writing.spoiled files.writing.spoiled fault (rw known.spoiled at did.spoiled);
      }

  pub go : (es : List Exchange) {start : Standing C} (now : Standing C) (r : Router) → IsGoing x place Ready first a began start began →
      HaveFetched x place Ready start es now → HaveJudged x began es r → IsGoing x place Ready first a began now r
  go [] now r known fetched judged = rw (fetched, judged) known
  go (e ∷ es) now r known (before, fetched, did) (router, judged, made) =
      let hand = did.handed in
      let well : WentWell x router r before.round now.pending = rw (← hand.asked, did.made) (if_ok e.report.judged did.judged made.well) in
      goes (go es before router known fetched judged) hand.going (rw (← hand.asked) made.duty) well hand.outside

  pub break_off : (es : List Exchange) {start : Standing C} (files : Halves) (reader : C) (fault : Fault) (r : Router) →
      IsGoing x place Ready first a began start began → ((c : C) → SomeLeft (place c).left) →
      HaveBroken x place Ready start es files reader fault → HaveJudged x began es r →
      IsBroken x first a began r files (has_failed {T = Ending} (Err fault))
  break_off [] files reader fault r known some broke judged = absurd broke
  break_off (e ∷ es) files reader fault r known some (before, fetched, hand) (router, judged, made) =
      fails (go es before router known fetched judged) hand.going r (rw (← hand.asked) made.duty) files reader fault some hand.outside

-- what one side took is what the other one asked, and what it gave what the other one heard
module _ {C : Type 0} (x : Setup) (place : C → Spot) (Ready : C → ℕ → Type 0) (start : Standing C) (began router : Router)
    {took asked : List Assignment} {gave heard : List Report} (all_taken : took ≡ asked) (all_heard : gave ≡ heard)
    (judged : HaveTaken x began router took gave) where
  pub both : {T : Type 0} (now : Standing C) (r : Result T Fault) → Asks x place Ready start now asked heard r →
      Go x place Ready start now began router r
  both now r did =
      let same = same_exchanges judged.exchanges did.exchanges (sym judged.took_are ∙ (all_taken ∙ did.asked_are))
      (sym judged.gave_are ∙ (all_heard ∙ did.heard_are)) in
      record { exchanges = did.exchanges; judged = subst (λ (l : List Exchange). HaveJudged x began l router) same judged.judged; ended = did.ended }

-- the same of the same values
pub of_same : {A B D E H K : Type 0} (P : A → B → D → E → H → K → Type 0) {a : A} {b : B} {d : D} {e : E} {h : H} {k : K} (p : A) (q : B) (r : D) (s : E)
    (t : H) (u : K) → a ≡ p → b ≡ q → d ≡ r → e ≡ s → h ≡ t → k ≡ u → P p q r s t u → P a b d e h k
of_same P p q r s t u first second third fourth fifth sixth it = rw (first, second, third, fourth, fifth, sixth) it
