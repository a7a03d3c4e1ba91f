-- What rounds add, one after another.
use Rattle.lwaftr_engine.proofs.Words.{◌≡◌, ℕ, arith, inl, length, List, [], Option, None, refl, sym, ◌∙◌, ap, append-nil, subst, Contents, Moves, Readable, read_well}
use Rattle.lwaftr_engine.proofs.Words.{RunJob, is_cut, Ending, AddsTo, ReadsOf, Router, Setup, OthersKept, CanGoOn, IsSettledAt, StaysOnDuty, Progress}
use Rattle.lwaftr_engine.proofs.Words.{CanJudge, IsAtStart, Round, Shift}
use Rattle.lwaftr_engine.proofs.Moving.{moves_join, moves_none}

adds_none : (s : Shift) → AddsTo s s
adds_none s = record { drawn = []; draws = sym (append-nil s.seat.known.actor.draws); news = []; points = sym (append-nil s.desk.known.points) }

-- nothing is drawn
pub stays_so : {x : Setup} {r : Router} {round : Round} → CanJudge x r round → StaysOnDuty r.shift r.shift round.number
stays_so {r = r} can = record {
  areas = refl;
  duty = can.ready.duty;
  adds = adds_none r.shift;
  few = omega (arith, can.ready.drawn, can.in_hand.numbered);
  up_to_date = can.ready.up_to_date;
}

-- before the first round
pub can_begin : {x : Setup} (r : Router) → IsAtStart x r → CanGoOn x r.shift r.progress
can_begin r start = record {
  loads = start.loads;
  compiled = start.compiled;
  duty = start.duty;
  drawn = ap (λ (l : List (ℕ × ℕ)). length l) start.no_draws ∙ sym start.first.number;
  bounded = record {
    number = omega (arith, start.first.number);
    staged = start.first.staged ∙ sym start.first.number;
    totals = rw start.first.totals (record {
      records = sym start.first.number;
      held = omega arith;
      forwarded = omega arith;
      dropped = omega arith;
      packets = omega arith;
    });
    rate = start.first.rate;
    printed = omega (arith, start.first.printed);
  };
  up_to_date = inl (ap (λ (l : List (ℕ × ℕ)). length l) start.no_draws);
}

-- behind a round that went well the next one can be judged
pub goes_on : {x : Setup} {p : Progress} {number : ℕ} (s : Shift) (r : Router) → StaysOnDuty s r.shift number → CanGoOn x s p → IsSettledAt x r →
    CanGoOn x r.shift r.progress
goes_on s r stays ready after = record {
  loads = ready.loads;
  compiled = rw stays.areas ready.compiled;
  duty = stays.duty;
  drawn = after.drawn;
  bounded = after.bounded;
  up_to_date = stays.up_to_date;
}

pub others_more : (run : RunJob) (a b d : Option Contents) → Moves a b (OthersKept run) → Moves b d (OthersKept run) → Moves a d (OthersKept run)
others_more run a b d first second = moves_join a b d _ _ _ (λ m n o u v name x y z. v name x y z ∙ u name x y z) first second

pub others_same : (run : RunJob) (a b : Option Contents) → b ≡ a → Moves a b (OthersKept run)
others_same run a b same = moves_none a b _ (λ m name x y z. refl) same

-- rounds that go on read without a fault
pub reads_on : (stop : Option Ending) → stop ≡ None → (name : List ℕ) (a b : Readable) → ReadsOf (is_cut stop) name a b → b ≡ a
reads_on stop none name a b reads =
    let R : Option Ending → Type 0 = λ s. ReadsOf (is_cut s) name a b in
    let well : ReadsOf (is_cut None) name a b = subst R none reads in
    read_well name (λ place. Unit {0}) a b well
