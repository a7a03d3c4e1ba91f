-- How the records of a run ended.
use Rattle.run_turns.proofs.Words.{AreBefore, CaptureBad, Ending, HasTaken, IsBehind, Left, List, None, Option, Readable, Rec, Rises, Some, Spot, Takes}
use Rattle.run_turns.proofs.Words.{append-nil, arith, inl, inr, is_cut, ℕ, ◌<◌, ◌∷◌, []}
use Rattle.capture_io.specs.declared.rounds.Ending.TheVariants as ending

-- whatever is left has some ending
abbrev pub SomeLeft : Left → Type 0
SomeLeft left = (bytes : List ℕ) (number : ℕ) → (rs : List Rec) × (ended : Option CaptureBad) × left bytes number rs ended

is_behind : (place : ℕ) (left : Left) (bytes : List ℕ) (number : ℕ) (rest : List Rec) (ended : Option CaptureBad) → left bytes number rest ended →
    ((r : Rec) (rs : List Rec) (e : Option CaptureBad) → left bytes number (r ∷ rs) e → place < r.next_at) → IsBehind place rest
is_behind place left bytes number [] ended it before = tt
is_behind place left bytes number (r ∷ rs) ended it before = before r rs ended it

-- the records that were taken, by how they stopped
abbrev pub EndsAt : List ℕ → Spot → List ℕ → List Rec → Ending → Option (List ℕ × ℕ) → Type 0
EndsAt name first bytes rs ending.End last = first.left bytes 0 rs None
EndsAt name first bytes rs (ending.Bad refusal) last = first.left bytes 0 rs (Some refusal)
EndsAt name first bytes rs ending.ReadFault last = AreBefore (first.left bytes 0) name first.at rs last

pub ends_at : {name : List ℕ} {first reader : Spot} {bytes : List ℕ} {rs : List Rec} {number : ℕ} (stop : Ending) {last : Option (List ℕ × ℕ)} →
    SomeLeft reader.left →
    HasTaken name first reader bytes rs number (Some stop) last → EndsAt name first bytes rs stop last
ends_at {rs = rs} ending.End some taken = rw (← (append-nil rs)) (taken.follows [] None taken.stopped)
ends_at {rs = rs} (ending.Bad refusal) some taken = rw (← (append-nil rs)) (taken.follows [] (Some refusal) taken.stopped)
ends_at {reader = reader} {bytes = bytes} {number = number} ending.ReadFault some taken =
    let rest = some bytes number in
    record {
      rest = rest.0;
      ending = rest.1;
      capture = taken.follows rest.0 rest.1 rest.2;
      place = taken.stopped.place;
      last_is = taken.stopped.last_is;
      in_records = omega (arith, taken.forward, taken.stopped.begun);
      reached = λ k d inside. omega (arith, taken.within k d inside, taken.stopped.begun);
      next = is_behind taken.stopped.place reader.left bytes number rest.0 rest.1 rest.2 taken.stopped.before;
    }

-- which records count
pub takes_by : (name : List ℕ) (first : Spot) (bytes : List ℕ) {rs : List Rec} (a b : Readable) (stop : Ending) →
    Rises (is_cut (Some stop)) a.lost b.lost → EndsAt name first bytes rs stop b.last → Takes name first bytes rs a b
takes_by name first bytes a b ending.End rises it = inl (rises, (None, it))
takes_by name first bytes a b (ending.Bad refusal) rises it = inl (rises, (Some refusal, it))
takes_by name first bytes a b ending.ReadFault rises it = inr (rises, it)
