-- A round that a worker judges, or else the sink.
use Rattle.run_turns.proofs.Words.{◌≡◌, ℕ, ◌≤◌, Option, None, Some, Bool, true, false, refl, sym, ◌∙◌, ap, arith, subst, AreasValue, Bucket, HasPassedTurn}
use Rattle.aftr_base.specs.declared.lists.OutOfMemory.{OutOfMemory}
use Rattle.run_output.specs.Counting.{IsWithin}
use Rattle.run_output.specs.Passing.{HasPassed}
use Rattle.run_output.specs.declared.rounds.DrawnRound.{DrawnRound}
use Rattle.std.specs.Prelude.{IfOk, IsOk, List, Result, Ok, Err, length}
use Rattle.worker_gate.specs.Holders.{HeldValue}
use Rattle.worker_gate.specs.Judging.{HasRead}
use Rattle.run_turns.proofs.Words.{Part, Rec, StagedValue}
use Rattle.run_turns.proofs.Words.{IsFree, IsPassed, Judged, JudgesTurn, PassesBy, Setup, TurnSeat, rate_of, reads_of, share_of}
use Rattle.run_turns.specs.declared.turn.TurnSeat.TheVariants as seat

-- what is known of a result that is no error
pub when_ok : {P : Type 0} (r : Result Unit OutOfMemory) → IsOk r → IfOk r (λ done. P) → P
when_ok (Ok done) is claim = claim
when_ok (Err why) is claim = absurd (cc is)

-- a round was judged in one pass, with what the judge held before and after
pub passed_of : {x : Setup} {limit asked : Option Bucket} {start reads : ℕ} {round : StagedValue} {held before after : HeldValue} {part : Part} {drawn : DrawnRound} →
    drawn.form ≡ x.form → drawn.written ≡ x.written → drawn.start ≡ start → drawn.records.now ≡ round.records → drawn.items.now ≡ round.entries →
    HasRead held before → HasPassed drawn before after limit asked part → IsWithin part.counted (length drawn.records.now) → after.known.reads ≤ reads →
    rate_of asked ≡ rate_of limit → IsPassed x limit asked start round held part reads
passed_of {part = part} {drawn = drawn} form written at records items read passed within counted rate = record {
  drawn = drawn;
  its_form = form;
  its_written = written;
  its_start = at;
  its_records = records;
  its_items = items;
  before = _;
  after = _;
  read = read;
  passed = passed;
  within = subst (λ (l : List Rec). IsWithin part.counted (length l)) records within;
  counted = counted;
  rate = rate;
}

pub no_limit : (l : Option Bucket) → rate_of l ≡ None → l ≡ None
no_limit None is = refl
no_limit (Some b) is = absurd (cc is)

module _ {x : Setup} {areas : AreasValue} where
  pub passed_reads : {limit asked : Option Bucket} {t u : Judged} → HasPassedTurn x areas limit asked t u → reads_of t.seat ≤ reads_of u.seat
  passed_reads {limit} {asked} {t} {u} it = by_seat t.seat it.by_seat where
    by_seat : (s : TurnSeat) → PassesBy x s limit asked t u → reads_of s ≤ reads_of u.seat
    by_seat (seat.Free free) (same, (refused, (part, reads))) = omega (arith, reads)
    by_seat (seat.Held held) (reads, passed) = reads
    by_seat seat.Away (same, (refused, (part, reads))) = omega (arith, reads)

  -- a worker judges without a limit, and the sink finds the round judged
  judged_apart : {limit now asked : Option Bucket} {t u m : Judged} → limit ≡ None → HasPassedTurn x areas None asked t u → HasPassedTurn x areas limit now u m →
      HasPassedTurn x areas limit now t m
  judged_apart {limit} {now} {asked} {t} {u} {m} unlimited_now one two = record {
    start = two.start ∙ one.start;
    round = two.round ∙ one.round;
    versions = two.versions ∙ one.versions;
    free = two.free;
    share = two.share ∙ one.share;
    refuses = λ is. two.refuses (one.refuses is);
    by_seat = by_free u.seat refl one.free two.by_seat;
  } where
    by_seat : (s : TurnSeat) → now ≡ limit → m.refused ≡ u.refused → m.part ≡ u.part → reads_of m.seat ≡ reads_of u.seat → PassesBy x s None asked t u →
        PassesBy x s limit now t m
    by_seat (seat.Free free) same refused part reads (a, (b, (c, d))) = (same, (refused ∙ b, (part ∙ c, reads ∙ d)))
    by_seat (seat.Held held) same refused part reads (some, passed) = (
      omega (arith, some, reads),
      λ is.
          let was = passed (sym refused ∙ is) in
          let it : IsPassed x None asked t.start t.round held u.part (reads_of u.seat) = was.1 in
          let free_of_limit : asked ≡ None = no_limit asked it.rate in
          let limit_is : asked ≡ now = free_of_limit ∙ sym (same ∙ unlimited_now) in
          (was.0, rw (unlimited_now, part, reads) (subst (λ (k : Option Bucket). IsPassed x None k t.start t.round held u.part (reads_of u.seat)) limit_is it)),
    )
    by_seat seat.Away same refused part reads (a, (b, (c, d))) = (same, (refused ∙ b, (part ∙ c, reads ∙ d)))

    by_free : (s : TurnSeat) → u.seat ≡ s → IsFree areas s → PassesBy x s limit now u m → PassesBy x t.seat limit now t m
    by_free (seat.Free free) is its (same, (refused, (part, reads))) =
        by_seat t.seat same refused part (reads ∙ sym (ap (λ (s : TurnSeat). reads_of s) is)) one.by_seat
    by_free (seat.Held held) is its passed = absurd its
    by_free seat.Away is its (same, (refused, (part, reads))) =
        by_seat t.seat same refused part (reads ∙ sym (ap (λ (s : TurnSeat). reads_of s) is)) one.by_seat

module _ (x : Setup) (areas : AreasValue) where
  pub judged_reads : (limited : Bool) (t u : Judged) → JudgesTurn x areas limited t u → reads_of t.seat ≤ reads_of u.seat
  judged_reads false t u (asked, it) = passed_reads it
  judged_reads true t u same = omega (arith, ap (λ (j : Judged). reads_of j.seat) same)

  pub judged_share : (limited : Bool) (t u : Judged) → JudgesTurn x areas limited t u → share_of u.seat ≡ share_of t.seat
  judged_share false t u (asked, it) = it.share
  judged_share true t u same = ap (λ (j : Judged). share_of j.seat) same

  -- whoever judged it
  pub judged_once : (limited : Bool) {limit now : Option Bucket} (t u m : Judged) → (limited ≡ false → limit ≡ None) → JudgesTurn x areas limited t u →
      HasPassedTurn x areas limit now u m → HasPassedTurn x areas limit now t m
  judged_once false t u m unlimited (asked, one) two = judged_apart (unlimited refl) one two
  judged_once true {limit} {now} t u m unlimited same two = subst (λ (j : Judged). HasPassedTurn x areas limit now j m) same two
