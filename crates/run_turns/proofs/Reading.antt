-- What was read, from turn to turn.
use Rattle.run_turns.proofs.Words.{◌≡◌, ℕ, ◌+◌, ◌≤◌, List, [], ◌++◌, length, All-append, Option, None, Some, inl, inr, ◌∙◌, ap, arith}
use Rattle.run_turns.proofs.Words.{subst, append-nil, append_assoc, length-append, Contents, Told, content, Readable, Rises, Rec, Ending, Setup, Spot, HasTaken, Takes}
use Rattle.run_turns.proofs.Words.{is_cut, HasFetched, IsNext, Standing, WereRead}
use Rattle.run_turns.proofs.EndLemmas.{SomeLeft, ends_at, takes_by}
use Rattle.run_turns.proofs.Moving.{told_all, told_by}
use Rattle.run_turns.proofs.Steps.{follows_more, no_further}

-- the records that were read, and maybe more
abbrev pub TakesMore : List ℕ → Spot → List ℕ → List Rec → Readable → Readable → Type 0
TakesMore name first bytes rs a b = (more : List Rec) × Takes name first bytes (rs ++ more) a b

pub takes_of : {name : List ℕ} {first here : Spot} {bytes : List ℕ} {rs : List Rec} {number : ℕ} (stop : Option Ending) (a b : Readable) →
    SomeLeft here.left → HasTaken name first here bytes rs number stop b.last → Rises (is_cut stop) a.lost b.lost → TakesMore name first bytes rs a b
takes_of {bytes = bytes} {number = number} None a b some taken rises =
    let rest = some bytes number in
    (rest.0, inl (rises, (rest.1, taken.follows rest.0 rest.1 rest.2)))
takes_of {name = name} {first = first} {bytes = bytes} {rs = rs} (Some stop) a b some taken rises =
    ([], rw (append-nil rs) (takes_by name first bytes a b stop rises (ends_at stop some taken)))

-- those of a longer list
pub takes_front : (name : List ℕ) (first : Spot) (bytes : List ℕ) (rs ss : List Rec) (a b : Readable) → TakesMore name first bytes (rs ++ ss) a b →
    TakesMore name first bytes rs a b
takes_front name first bytes rs ss a b (more, takes) =
    (ss ++ more, rw (← (append_assoc rs ss more)) takes)

module _ {C : Type 0} (x : Setup) (place : C → Spot) (first : Spot) where
  -- these records were read, and those that stand ahead
  abbrev pub IsTaken : List ℕ → ℕ → Standing C → List Rec → Type 0
  IsTaken bytes number s rs = HasTaken x.run.input first (place s.reader) bytes rs number s.ending s.files.last

  -- records that were fetched go behind those before
  abbrev pub Grows : List ℕ → ℕ → Standing C → Standing C → List Rec → Type 0
  Grows bytes number a b records = (rs : List Rec) → IsTaken bytes (number + length a.ahead) a (rs ++ a.ahead) → IsTaken bytes (number + length records) b (rs ++ records)

  read_grows : (bytes : List ℕ) (number : ℕ) (a b : Standing C) (records : List Rec) (w : WereRead x place number a b records) →
      ((place a.reader).stood bytes → IsNext x.run.input (place a.reader) (place b.reader) number bytes w.round b.files.last) → Grows bytes number a b records
  read_grows bytes number a b records w told rs taken =
      let before : HasTaken x.run.input first (place a.reader) bytes rs number a.ending a.files.last =
      subst (λ (l : List Rec). HasTaken x.run.input first (place a.reader) bytes l number a.ending a.files.last)
      (ap (λ (l : List Rec). rs ++ l) w.none ∙ append-nil rs)
      (subst (λ (n : ℕ). HasTaken x.run.input first (place a.reader) bytes (rs ++ a.ahead) n a.ending a.files.last)
      (omega (arith, ap (λ (l : List Rec). length l) w.none)) taken) in
      let next = told before.stands in
      let behind : HasTaken x.run.input first (place b.reader) bytes (rs ++ w.round.records) w.round.number w.round.ending b.files.last = record {
        stands = next.goes.stands;
        count = omega (arith, before.count, w.read.in_hand.numbered, length-append rs w.round.records);
        follows = follows_more first.left (place a.reader).left (place b.reader).left bytes 0 number w.round.number rs w.round.records before.follows next.goes.follows;
        forward = omega (arith, before.forward, w.read.placed.forward);
        within = All-append (λ d. d.next_at ≤ (place b.reader).at) rs w.round.records
            (no_further rs (place a.reader).at (place b.reader).at w.read.placed.forward before.within) w.read.placed.within;
        stopped = next.stopped;
      } in
      rw (w.records_are, w.ending_is) (subst (λ (n : ℕ). HasTaken x.run.input first (place b.reader) bytes (rs ++ w.round.records) n w.round.ending b.files.last)
      w.read.in_hand.numbered behind)

  pub fetched_grows : (h : Option Contents) (number : ℕ) (a b : Standing C) (records : List Rec) → a.files.held ≡ h → HasFetched x place number a b records →
      Told h (λ i. Grows (content i x.run.input) number a b records)
  fetched_grows h number a b records same (inl stood) =
      told_all h _ (λ i rs taken. rw (stood.records_are, stood.same_reader, stood.same_ending, stood.same_files) taken)
  fetched_grows h number a b records same (inr w) =
      told_by h _ _ (λ i told. read_grows (content i x.run.input) number a b records w told) (rw same at w.read.told)
