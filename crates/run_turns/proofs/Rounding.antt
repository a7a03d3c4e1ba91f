-- A round that was drawn, judged and counted is a round that was judged.
use Rattle.run_turns.proofs.Words.{◌≡◌, ℕ, ◌+◌, ◌-◌, ◌<◌, ◌^◌, ◌≤◌, List, [], ◌∷◌, ◌++◌, length, All, Option, refl, sym, ◌∙◌, ap, arith}
use Rattle.run_turns.proofs.Words.{AreasValue, Bool, Bucket, Course, Entry, Filled, HasAsked, HasCounted, HasDrawn, HasJudged, HasJudgedWhole, HasOutcomes}
use Rattle.run_turns.proofs.Words.{IsCourseOf, IsInRange, IsLimited, IsPassed, IsRendered, Outcome, Part, Putting, Rec, RoundLaws, Setup, Spot}
use Rattle.run_turns.proofs.Words.{State, Taking, View, all_asking, consecutive, items_in, length-map, no_totals, rate_of, DrawsNothing, HeldValue, Suits, subst}
use Rattle.run_turns.proofs.Words.{StagedValue}
pub use Rattle.run_turns.specs.Runs.{progress_of, state_by as state_of}
use Rattle.run_turns.proofs.Asking.{whole_asked}
use Rattle.run_turns.proofs.Judging.{JudgedRound, has_outcomes}

nothing_drawn : (v : View) → DrawsNothing v v
nothing_drawn v = record {
  draws = refl;
  later = record { version = omega arith; records = omega arith };
  same_reads = refl;
  same_share = refl;
  same_right = refl;
}

-- a round that was judged in one pass
module _ (laws : RoundLaws) {x : Setup} {limit asked : Option Bucket} {start : ℕ} {round : StagedValue} {held : HeldValue} {part : Part} {reads : ℕ}
    (it : IsPassed x limit asked start round held part reads) where
  abbrev pub outcomes : List Outcome
  outcomes = it.passed.all

  pub whole : HasJudgedWhole held.areas.plan (items_in round.entries) start held.version held.known it.after.known outcomes
  whole =
      rw (it.its_items, it.its_start) at
      (laws.whole it.drawn held it.before it.after it.after.known limit asked part it.passed it.read (nothing_drawn it.after.known))

  pub many : length outcomes ≡ length round.records
  many = rw it.its_records at it.passed.many

  pub asked_all : held.known.reads + all_asking (items_in round.entries) ≤ reads
  asked_all = omega (arith, whole_asked held.areas.plan (items_in round.entries) start held.version held.known it.after.known outcomes whole, it.counted)

  pub rendered : (c : Course) (taken : List Rec) (front : List Entry) → length taken ≡ start →
      IsCourseOf c x.form taken round.records front round.entries outcomes limit →
      IsLimited (rate_of limit) x.form (taken ++ round.records) (front ++ round.entries) c →
      IsRendered c x.written start round.records round.entries no_totals part.counted (part ∷ [])
  rendered = rw (it.its_form, it.its_written, it.its_start, it.its_records, it.its_items) at it.passed.rendered

  pub asked_of : (c : Course) (taken : List Rec) (front : List Entry) → length taken ≡ start →
      IsCourseOf c x.form taken round.records front round.entries outcomes limit →
      HasAsked x.form (taken ++ round.records) (front ++ round.entries) c asked
  asked_of = rw (it.its_form, it.its_start, it.its_records, it.its_items) at it.passed.has_asked

-- a turn that drew records, of which the limit was asked and the totals were counted
pub record WholeTurn (C : Type 0) : Type 1 where
  pub laws : RoundLaws
  pub x : Setup
  pub place : C → Spot
  pub areas : AreasValue
  pub a : Taking C
  pub b : Taking C
  pub room : Filled
  pub turn : Filled
  pub more : Bool
  pub its_areas : a.dealer.areas.now ≡ areas
  pub drawn : HasDrawn x place a b room turn more
  pub v : Putting
  pub w : Putting
  pub range : IsInRange x (progress_of a v)
  pub part : Part
  pub reads : ℕ
  pub it : IsPassed x v.limit w.limit turn.start turn.round drawn.held part reads
  pub counted : HasCounted part v.totals w.totals
  pub rate : rate_of w.limit ≡ rate_of v.limit
  pub before : ℕ

module _ {C : Type 0} (t : WholeTurn C) where
  abbrev items_count : length (items_in t.turn.round.entries) ≡ length t.turn.round.records
  items_count = length-map t.turn.round.entries (λ (e : Entry). e.item) ∙ t.drawn.staged.count

  abbrev pub gain : ℕ
  gain = all_asking (items_in t.turn.round.entries)

  abbrev pub p : State
  p = state_of t.areas t.a t.v t.before

  abbrev pub q : State
  q = state_of t.areas t.b t.w (t.before + all_asking (items_in t.turn.round.entries))

  all_versions : All (λ (o : Outcome). o.version ≡ t.drawn.held.version) (outcomes t.laws t.it)
  all_versions = (whole t.laws t.it).versions

  few : t.a.number + length t.turn.round.records ≤ 2 ^ 31
  few = omega (arith, t.drawn.most, t.drawn.number)

  its_plan : t.drawn.held.areas.plan ≡ t.areas.plan
  its_plan = ap (λ (k : AreasValue). k.plan) (t.drawn.its_areas ∙ t.its_areas)

  abbrev judged_round : JudgedRound
  judged_round = record {
    plan = t.drawn.held.areas.plan;
    entries = t.turn.round.entries;
    start = t.turn.start;
    end = t.turn.start + length (items_in t.turn.round.entries);
    draws = t.a.dealer.seat.known.actor.draws;
    news = consecutive t.turn.start (length (items_in t.turn.round.entries)) t.drawn.held.version;
    after = t.b.dealer.seat.known.actor.draws;
    after_is = rw (items_count, t.drawn.start) t.drawn.draws;
    all = outcomes t.laws t.it;
    are = (whole t.laws t.it).outcomes;
    versions = λ k o inside.
        let same = all_versions k o inside in
        let there : t.drawn.held.version < length t.drawn.held.areas.plan.tables = rw t.drawn.its_areas t.drawn.there in
        omega (arith, same, there);
  }

  have : (c : Course) → Suits p.plan q.draws c → HasOutcomes c p.progress.number t.turn.round.entries (outcomes t.laws t.it)
  have c suits =
      subst (λ (n : ℕ). HasOutcomes c n t.turn.round.entries (outcomes t.laws t.it)) t.drawn.start
      (has_outcomes judged_round c (subst (λ (k : _). Suits k q.draws c) (sym its_plan) suits))

  pub judged_turn : HasJudged t.x p q t.turn.round.records t.turn.versions t.part
  judged_turn = record {
    news = t.drawn.news;
    entries = t.turn.round.entries;
    outcomes = outcomes t.laws t.it;
    numbered = t.drawn.number;
    staged = t.drawn.staged;
    outcomes_count = many t.laws t.it ∙ sym t.drawn.staged.count;
    versions_known = λ k o inside. omega (arith, all_versions k o inside, t.drawn.version);
    reads = omega arith;
    rate = t.range.rate;
    rendered = record {
      rendered = λ c taken front count course limited.
          let number : length taken ≡ t.turn.start = count ∙ sym t.drawn.start in
          (t.counted.rendered t.a.number (length t.turn.round.records) t.range.totals t.it.within few c t.x.written t.turn.round.records
          t.turn.round.entries (rw t.drawn.start at (rendered t.laws t.it c taken front number course limited)));
      asked = λ c taken front count course. asked_of t.laws t.it c taken front (count ∙ sym t.drawn.start) course;
    };
    new_lines = t.drawn.new_lines;
    have = have;
  }

  pub range_behind : IsInRange t.x (progress_of t.b t.w)
  range_behind = record {
    number = omega (arith, t.drawn.most);
    staged = omega (arith, t.drawn.staged.number, t.range.staged, t.drawn.number);
    totals = rw t.drawn.number (t.counted.within t.a.number (length t.turn.round.records) t.range.totals t.it.within few);
    rate = t.rate ∙ t.range.rate;
    printed = t.drawn.new_lines.tells.inside;
  }
