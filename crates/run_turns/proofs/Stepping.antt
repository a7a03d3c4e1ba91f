-- What a turn makes of what the outputs hold.
use Rattle.run_turns.proofs.Words.{◌≡◌, ℕ, List, [], ◌∷◌, ◌++◌, refl, sym, ◌∙◌, ap, append-nil, append_assoc, Contents, Rec, Setup, State, Suits, Course}
use Rattle.run_turns.proofs.Words.{AreWritten, Did, DidFront, HasJudged, IsCutFrom, Part, RoundLaws, lines_in, packets_in, round_log}
use Rattle.run_turns.proofs.Begun.{TakenUnder, begun_more, begun_tables, still_begun}
use Rattle.run_turns.proofs.Going.{RoundUnder, written_more}
use Rattle.run_turns.proofs.Steps.{suits_before}
use Rattle.run_turns.proofs.Writing.{WroteFront, in_others, in_tables, wrote, wrote_front}

-- what is behind fewer draws and points
pub record IsSince (p q : State) : Type 0 where
  pub same_plan : q.plan ≡ p.plan
  pub drawn : List (ℕ × ℕ)
  pub draws : q.draws ≡ p.draws ++ drawn
  pub news : List ℕ
  pub points : q.points ≡ p.points ++ news

pub suited : {p q : State} → IsSince p q → {c : Course} → Suits q.plan q.draws c → Suits p.plan p.draws c
suited {p} {q} since {c} suits = suits_before p.plan p.draws since.drawn q.draws c since.draws (rw since.same_plan at suits)

module _ {x : Setup} where
  -- a front of what the first records write is one with points that came since, and more draws
  pub cut_since : {p q : State} {opened n : Contents} {records : List Rec} → IsSince p q → IsCutFrom x p opened n records → IsCutFrom x q opened n records
  cut_since {p} {q} since cut = record {
    taken = cut.taken;
    rest = cut.rest;
    all = cut.all;
    begun = λ later c suits.
        let same : p.points ++ (since.news ++ later) ≡ q.points ++ later =
        sym (append_assoc p.points since.news later) ∙ ap (λ (l : List ℕ). l ++ later) (sym since.points) in
        rw (← same) (cut.begun (since.news ++ later) c (suited since suits));
  }

  -- it is one of what they and more write
  pub cut_more : {s : State} {opened n : Contents} {records : List Rec} → IsCutFrom x s opened n records → (more : List Rec) →
      IsCutFrom x s opened n (records ++ more)
  cut_more cut more = record {
    taken = cut.taken;
    rest = cut.rest ++ more;
    all = ap (λ (l : List Rec). l ++ more) cut.all ∙ append_assoc cut.taken cut.rest more;
    begun = cut.begun;
  }

  -- what is written whole is written to a front
  pub cut_of_all : {s : State} {opened n : Contents} {records : List Rec} → AreWritten x opened n s records → IsCutFrom x s opened n records
  cut_of_all {s} {opened} {n} {records} written = record {
    taken = records;
    rest = [];
    all = sym (append-nil records);
    begun = λ later c suits.
        let t : TakenUnder = record { x = x; c = c; opened = opened; before = n; s = s; taken = records; h = written c suits } in
        still_begun t later;
  }

-- a round that was judged, between two states of the run
pub record RoundBetween : Type 0 where
  pub laws : RoundLaws
  pub x : Setup
  pub p : State
  pub q : State
  pub since : IsSince p q
  pub records : List Rec
  pub versions : List ℕ
  pub part : Part
  pub judged : HasJudged x p q records versions part

module _ (r : RoundBetween) {opened n : Contents} {taken : List Rec} (written : AreWritten r.x opened n r.p taken) where
  abbrev under : (c : Course) → Suits r.q.plan r.q.draws c → RoundUnder
  under c suits = record {
    laws = r.laws;
    x = r.x;
    p = r.p;
    q = r.q;
    records = r.records;
    versions = r.versions;
    part = r.part;
    judged = r.judged;
    c = c;
    suits = rw r.since.same_plan at suits;
    opened = opened;
    before = n;
    taken = taken;
    h = written c (suited r.since suits);
  }

  -- it is in the outputs
  pub all_written : {next : Contents} → Did r.x.run (round_log r.versions (packets_in (r.part ∷ [])) (lines_in (r.part ∷ []))) n next →
      AreWritten r.x opened next r.q (taken ++ r.records)
  all_written {next} did c suits =
      written_more (under c suits) next (wrote r.x.run r.versions (packets_in (r.part ∷ [])) (lines_in (r.part ∷ [])) n next did)

  -- it is put in part
  pub part_written : {next : Contents} → DidFront r.x.run (round_log r.versions (packets_in (r.part ∷ [])) (lines_in (r.part ∷ []))) n next →
      IsCutFrom r.x r.q opened next (taken ++ r.records)
  part_written {next} front = by_front (wrote_front r.x.run r.versions (packets_in (r.part ∷ [])) (lines_in (r.part ∷ [])) n next front) where
    by_front : WroteFront r.x.run r.versions (packets_in (r.part ∷ [])) (lines_in (r.part ∷ [])) n next → IsCutFrom r.x r.q opened next (taken ++ r.records)
    by_front (in_tables count w) = record {
      taken = taken;
      rest = r.records;
      all = refl;
      begun = λ later c suits. begun_tables (under c suits) later count w;
    }
    by_front (in_others i k w) = record {
      taken = taken ++ r.records;
      rest = [];
      all = sym (append-nil (taken ++ r.records));
      begun = λ later c suits. begun_more (under c suits) later i k w;
    }
