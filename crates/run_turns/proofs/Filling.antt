-- What the source makes of a buffer, by how it ends.
use Rattle.run_turns.proofs.Words.{◌≡◌, ◌≢◌, ◌⊎◌, ℕ, ◌+◌, ◌<◌, ◌≤◌, List, [], ◌++◌, length, None, Bool, true, false, inl, inr, refl, sym, ◌∙◌, ap, arith}
use Rattle.run_turns.proofs.Words.{subst, append-nil, length-append, length-map, length-range_with_len, consecutive, range_with_len}
use Rattle.run_turns.proofs.Words.{AreasValue, Filled, HasDrawn, HasEnded, HasFetched, HasFilled, HoldsNothing, IsCutShort, IsFree, ReadsOf, Rec}
use Rattle.run_turns.proofs.Words.{Setup, Spot, Standing, Taking, TurnSeat, reads_of, share_of}
use Rattle.run_turns.specs.Fills.{standing}
use Rattle.run_turns.specs.Rounds.{TellsLoads}
use Rattle.run_turns.specs.Turns.{reads_in, shares_in}
use Rattle.run_turns.specs.declared.dealing.Dealer.{Dealer}
use Rattle.run_turns.specs.declared.turn.TurnSeat.TheVariants as seat
use Rattle.std.specs.Borrow.{Bor}
use Rattle.worker_gate.specs.Reloading.{KeepsPoints}

pub free_nothing : (areas : AreasValue) (s : TurnSeat) → IsFree areas s → HoldsNothing s
free_nothing areas (seat.Free free) is = tt
free_nothing areas (seat.Held held) is = absurd is
free_nothing areas seat.Away is = tt

undrawn : {d e : Dealer} → e ≡ d → e.seat.known.actor.draws ≡ d.seat.known.actor.draws ++ []
undrawn {d} same = ap (λ (x : Dealer). x.seat.known.actor.draws) same ∙ sym (append-nil d.seat.known.actor.draws)

unmoved : {d e : Dealer} → e ≡ d → KeepsPoints d.desk.known e.desk.known
unmoved {d} same = record {
  news = [];
  points = ap (λ (x : Dealer). x.desk.known.points) same ∙ sym (append-nil d.desk.known.points);
  same_plan = ap (λ (x : Dealer). x.desk.known.plan) same;
}

module _ {C : Type 0} where
  abbrev draws_of : Taking C → List (ℕ × ℕ)
  draws_of s = s.dealer.seat.known.actor.draws

  -- shares and counts of reads of seats stay
  pub record KeepsSeats (a b : Taking C) (room turn : Filled) : Type 0 where
    pub share : share_of turn.seat + shares_in b.seats ≡ share_of room.seat + shares_in a.seats
    pub reads : reads_of turn.seat + reads_in b.seats ≡ reads_of room.seat + reads_in a.seats
    pub seat_share : b.dealer.seat.known.share ≡ a.dealer.seat.known.share
    pub seat_reads : b.dealer.seat.known.reads ≡ a.dealer.seat.known.reads

module _ {C : Type 0} {x : Setup} {place : C → Spot} where
  -- what was fetched goes by no record that stands ahead now
  pub fetched_with : {number : ℕ} {before now : Standing C} {records : List Rec} → HasFetched x place number before now records → (ahead : List Rec) →
      HasFetched x place number before (standing now.files now.reader ahead now.ending) records
  fetched_with (inl stood) ahead = inl (record {
    records_are = stood.records_are;
    some = stood.some;
    same_files = stood.same_files;
    same_reader = stood.same_reader;
    same_ending = stood.same_ending;
  })
  fetched_with (inr w) ahead = inr (record {
    none = w.none;
    not_ended = w.not_ended;
    round = w.round;
    records_are = w.records_are;
    ending_is = w.ending_is;
    read = w.read;
    reads = w.reads;
  })

  -- if no record comes, the records have ended
  pub ended_of : {number : ℕ} {before now : Standing C} → HasFetched x place number before now [] → now.ending ≢ None
  ended_of (inl stood) = λ none. stood.some (sym stood.records_are) (sym stood.same_ending ∙ none)
  ended_of (inr w) = λ none.
      absurd (omega (arith, w.read.in_hand.some (sym w.ending_is ∙ none), ap (λ (l : List Rec). length l) w.records_are))

  -- no record came
  pub ended_by : {a b : Taking C} {room turn : Filled} {records : List Rec} → records ≡ [] → turn.round.records ≡ records →
      HasFetched x place a.number a.at b.at records → b.at.ahead ≡ [] → b.dealer ≡ a.dealer → b.stage ≡ a.stage → b.number ≡ a.number →
      b.printed ≡ a.printed → HoldsNothing turn.seat → HasEnded x place a b room turn false
  ended_by {a} {b} none records fetched ahead dealer stage number printed nothing =
      let of_none : HasFetched x place a.number a.at b.at [] = subst (λ (l : List Rec). HasFetched x place a.number a.at b.at l) none fetched in
      record {
        none = records ∙ none;
        fetched = of_none;
        ahead = ahead;
        ended = ended_of {number = a.number} {before = a.at} {now = b.at} of_none;
        dealer = dealer;
        stage = stage;
        number = number;
        printed = printed;
        nothing = nothing;
        ends = refl;
      }

  module _ {a b : Taking C} {room turn : Filled} where
    pub filled_whole : {more : Bool} → turn.refused ≡ false → a.refused ≡ false → b.refused ≡ false → KeepsSeats a b room turn →
        HasEnded x place a b room turn more ⊎ HasDrawn x place a b room turn more → HasFilled x place a b room turn more
    filled_whole sound going still keeps by = record {
      share = keeps.share;
      reads = keeps.reads;
      seat_share = keeps.seat_share;
      seat_reads = keeps.seat_reads;
      whole = λ is. (going, (still, by));
      cut = λ is. absurd (cc (is, sound));
    }

    pub filled_short : {more : Bool} → turn.refused ≡ true → KeepsSeats a b room turn → IsCutShort x place a b more → HasFilled x place a b room turn more
    filled_short is keeps cut = record {
      share = keeps.share;
      reads = keeps.reads;
      seat_share = keeps.seat_share;
      seat_reads = keeps.seat_reads;
      whole = λ sound. absurd (cc (sound, is));
      cut = λ refused. cut;
    }

  module _ {a b : Taking C} where
    -- memory was refused before anything was read
    pub cut_unread : b.refused ≡ true → b.dealer ≡ a.dealer → ReadsOf false x.run.input a.at.files b.at.files → b.at.ending ≡ a.at.ending →
        IsCutShort x place a b false
    cut_unread is same reads ending = record {
      refused = is;
      ends = refl;
      same_areas = ap (λ (d : Dealer). d.areas) same;
      drawn = [];
      draws = undrawn same;
      points = unmoved same;
      taken = inl ((reads, ending), refl);
    }

    -- memory was refused before a number was drawn
    pub cut_undrawn : {records : List Rec} → b.refused ≡ true → b.dealer ≡ a.dealer → a.refused ≡ false → HasFetched x place a.number a.at b.at records →
        IsCutShort x place a b false
    cut_undrawn {records} is same going fetched = record {
      refused = is;
      ends = refl;
      same_areas = ap (λ (d : Dealer). d.areas) same;
      drawn = [];
      draws = undrawn same;
      points = unmoved same;
      taken = inr (going, (records, (fetched, omega arith)));
    }

-- numbers that were drawn for some of the records
pub few_drawn : (start count version : ℕ) {many : ℕ} → start + count ≤ start + many → length (consecutive start count version) ≤ many
few_drawn start count version {many} few =
    let as_many : length (consecutive start count version) ≡ count =
    length-map {B = ℕ × ℕ} (range_with_len start count) (λ (number : ℕ). (number, version)) ∙ length-range_with_len start count in
    omega (arith, few, as_many)

pub some_drawn : {count : ℕ} (part : List Rec) → length part ≡ count → 1 ≤ count → part ≢ []
some_drawn part many some = λ none. absurd (omega (arith, some, many, ap (λ (l : List Rec). length l) none))

pub number_of : {count : ℕ} (start : ℕ) (part : List Rec) → length part ≡ count → start + count ≡ start + length part
number_of start part many = omega (arith, many)

pub draws_by : {count : ℕ} (start version : ℕ) (part : List Rec) (draws now : List (ℕ × ℕ)) → length part ≡ count →
    now ≡ draws ++ consecutive start count version → now ≡ draws ++ consecutive start (length part) version
draws_by start version part draws now many drawn = subst (λ (n : ℕ). now ≡ draws ++ consecutive start n version) (sym many) drawn

pub number_behind : {count : ℕ} (start : ℕ) {all : List Rec} (part ahead : List Rec) → length part ≡ count → all ≡ part ++ ahead →
    (start + count) + length ahead ≡ start + length all
number_behind start part ahead many split = omega (arith, many, ap (λ (l : List Rec). length l) split, length-append part ahead)

-- lines of tables, in other words
pub tells_by : {x y : Setup} {points now lines : List ℕ} {from to : ℕ} → x ≡ y → points ≡ now → TellsLoads x points from to lines →
    TellsLoads y now from to lines
tells_by {x} {y} {points} {now} {lines} {from} {to} same are tells =
    subst (λ (p : List ℕ). TellsLoads y p from to lines) are (subst (λ (s : Setup). TellsLoads s points from to lines) same tells)

-- a version that is in force has a table
pub is_there : {before now : Bor AreasValue} {version points : ℕ} → now ≡ before → version ≤ points → points < length now.now.plan.tables →
    version < length before.now.plan.tables
is_there same known there = omega (arith, known, there, ap (λ (r : Bor AreasValue). length r.now.plan.tables) same)
